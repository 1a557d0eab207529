use Rattle.empty_triangles.proofs.Heads.{AreHeadsTo}
use Rattle.empty_triangles.proofs.rays.fill_heads.Given as goal

abbrev pub invariant-loop-k : goal.invariant-loop-k
invariant-loop-k l = AreHeadsTo l.points.points l.a l.order l.k l.heads.items
