use Rattle.diamond_edges.specs.Rows.{AreGuesses, Adds}
use Rattle.diamond_edges.proofs.walk.judge.Given as goal

abbrev pub invariant-loop-k : goal.invariant-loop-k
invariant-loop-k l = AreGuesses l.points.points l.slots

abbrev pub invariant-loop-k-2 : goal.invariant-loop-k-2
invariant-loop-k-2 l = AreGuesses l.points.points l.slots × Adds l.points.points l.a l.tree l.low l.k l.fn.row.items l.row.items
