use Rattle.diamond_edges.proofs.Marks.{AreMarked}
use Rattle.diamond_edges.proofs.seen.seen_from.Given as goal

abbrev pub invariant-loop-k : goal.invariant-loop-k
invariant-loop-k l = AreMarked l.points.points l.a l.order.items l.k l.marks.items
