use Rattle.exact_predicates.specs.PointSet.{point_at}
use Rattle.hull_sweep.specs.Swept.{IsSwept}
use Rattle.hull_sweep.proofs.swept.Swept.of.Given as goal

abbrev pub invariant-loop-q : goal.invariant-loop-q
invariant-loop-q l = IsSwept (point_at l.points.points) l.q l.swept.lower.items l.swept.upper.items l.swept.tris.items
