use Rattle.flip_claims.specs.Rounds.{HoldsBoth}
use Rattle.flip_claims.proofs.Picking.{ArePickedTo}
use Rattle.flip_claims.proofs.winners.holding.Given as goal

abbrev pub invariant-loop-slot : goal.invariant-loop-slot
invariant-loop-slot l = ArePickedTo (HoldsBoth l.mesh l.words) l.slots l.held.items l.slot-index
