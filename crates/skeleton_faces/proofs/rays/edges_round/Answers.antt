-- Sorted rays are fanned out round their starts.
use Rattle.std.proofs.Common.{◌≡◌, ◌/◌, map, rules}
use Rattle.skeleton_faces.specs.declared.ray.Ray.{Ray}
use Rattle.skeleton_faces.proofs.FannedOut.{AreFannedOut-map}
use Rattle.skeleton_faces.proofs.rays.edges_round.Goals as goal

pub returns-clause-fanned_out : goal.returns-clause-fanned_out
returns-clause-fanned_out c =
    let is : c.in_ok-collect.field-0.items ≡ map (λ (r : Ray). r.side / 2) c.in_ok-rays.rays.items = search rules in
    let net = c.in_ok-rays.ensures.network in
    AreFannedOut-map _ _ _ _ _ net.points_are (record { ascending = net.ascending; ends_in = net.ends_in; clear = net.clear }) c.requires.one_each c.in_ok-rays.ensures.rays is
