use Rattle.flip_claims.proofs.Picking.{AreNumbers}
use Rattle.flip_claims.proofs.winners.all_slots.Given as goal

abbrev pub invariant-loop-slot : goal.invariant-loop-slot
invariant-loop-slot l = AreNumbers l.all.items l.slot
