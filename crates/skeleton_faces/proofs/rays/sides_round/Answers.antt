-- Sorted rays turn to the left round their starts.
use Rattle.std.proofs.Common.{◌≡◌, length, map, ap, ◌∙◌, rules}
use Rattle.std.proofs.lemmas.List.{length-map}
use Rattle.skeleton_faces.specs.declared.ray.Ray.{Ray}
use Rattle.skeleton_faces.proofs.Turning.{AreTurning-map}
use Rattle.skeleton_faces.proofs.rays.sides_round.Goals as goal

pub returns-clause-turning : goal.returns-clause-turning
returns-clause-turning c =
    let is : c.in_ok-collect.field-0.items ≡ map (λ (r : Ray). r.side) c.in_ok-rays.rays.items = search rules in
    AreTurning-map _ _ _ _ _ c.requires.points c.requires.clear c.in_ok-rays.ensures.rays is

pub returns-clause-count : goal.returns-clause-count
returns-clause-count c =
    let is : c.in_ok-collect.field-0.items ≡ map (λ (r : Ray). r.side) c.in_ok-rays.rays.items = search rules in
    ap length is ∙ (length-map c.in_ok-rays.rays.items (λ (r : Ray). r.side) ∙ c.in_ok-rays.ensures.count)
