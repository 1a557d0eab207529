-- All points swept are the hull and a triangulation.
use Rattle.std.proofs.Common.{length}
use Rattle.exact_predicates.proofs.Triangulations.{IsTriangulation-permutation}
use Rattle.exact_predicates.specs.PointSet.{point_at}
use Rattle.hull_sweep.proofs.Finals.{IsClosed-swept, IsTriangulation-closed}
use Rattle.hull_sweep.proofs.Hulls.{IsHull-closed}
use Rattle.hull_sweep.proofs.Rules.{FollowsRule-permutation}
use Rattle.hull_sweep.proofs.first.sweep.Goals as goal

pub returns-clause-hull : goal.returns-clause-hull
returns-clause-hull c =
    let outline = rw c.deref.ensures.value at c.in_ok-hull.ensures in
    rw c.of-2.ensures (IsHull-closed (IsClosed-swept c.of.ensures.valid c.in_ok-lower.ensures.swept outline))

pub returns-clause-tris : goal.returns-clause-tris
returns-clause-tris c =
    let outline = rw c.deref.ensures.value at c.in_ok-hull.ensures in
    rw (c.of-2.ensures, c.of-3.ensures)
    (IsTriangulation-permutation _ _ _ _ c.sort_unstable.ensures.permutation
    (IsTriangulation-closed (IsClosed-swept c.of.ensures.valid c.in_ok-lower.ensures.swept outline)))

pub returns-clause-rule : goal.returns-clause-rule
returns-clause-rule c =
    let ps = c.args.points.now.points in
    rw c.of-3.ensures (FollowsRule-permutation (point_at ps) (length ps) _ _ c.sort_unstable.ensures.permutation c.in_ok-lower.ensures.swept.rule)
