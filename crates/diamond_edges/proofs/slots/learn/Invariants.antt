use Rattle.diamond_edges.specs.Rows.{AreGuesses}
use Rattle.diamond_edges.proofs.slots.learn.Given as goal

abbrev pub invariant-loop-k : goal.invariant-loop-k
invariant-loop-k l = AreGuesses l.points.points l.slots
