use Rattle.flip_claims.proofs.Flipping.{AreFlippedTo}
use Rattle.flip_claims.proofs.winners.flip_all.Given as goal

abbrev pub invariant-loop-slot : goal.invariant-loop-slot
invariant-loop-slot l = AreFlippedTo l.points.points l.initial.mesh l.mesh l.winners l.slot-index
