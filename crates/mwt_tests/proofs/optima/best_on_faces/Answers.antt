-- The skeleton of live edges has faces.
use Rattle.std.proofs.Common.{ℕ, List, sym, subst}
use Rattle.exact_predicates.specs.declared.diamond.Diamond.TheVariants.{Off}
use Rattle.exact_predicates.specs.declared.point.Point.{Point}
use Rattle.exact_predicates.specs.Candidates.{AreCandidates}
use Rattle.lmt_network.specs.Flags.{live_edges}
use Rattle.lmt_network.specs.Skeleton.{AreSkeleton}
use Rattle.skeleton_faces.specs.Faces.{AreClear}
use Rattle.skeleton_faces.proofs.Clear.{AreClear-skeleton}
use Rattle.mwt_tests.proofs.optima.best_on_faces.Goals as goal

pub faces-requires : goal.faces-requires
faces-requires g c =
    let net = c.in_ok-net.field-0.net in
    let edges = live_edges net c.in-Ok.settled.flags in
    let skeleton = c.in-Ok-skeleton.skeleton in
    let e = c.in_ok-net.ensures.network in
    let candidates : AreCandidates net.points net.hull Off net.edges =
    subst (λ (ps : List Point). AreCandidates ps net.hull Off net.edges) (sym e.points_are)
    (subst (λ (hull : List ℕ). AreCandidates c.in_ok-points.points.points hull Off net.edges) (sym e.hull_is) e.candidates) in
    let live = c.in-Ok.ensures.live_edges Off candidates in
    subst (λ (ps : List Point). AreClear ps skeleton) e.points_are
    (AreClear-skeleton net.points net.hull Off edges skeleton live.closed.candidates
    (subst (λ (ps : List Point). AreSkeleton ps edges skeleton) (sym e.points_are) c.in-Ok-skeleton.ensures.skeleton))
