use Rattle.std.proofs.Common.{◌+◌, List, ℕ, sym, subst}
use Rattle.flip_claims.proofs.Picking.{AreNumbers, numbers_more}
use Rattle.flip_claims.proofs.winners.all_slots.Goals as goal

pub loop-slot-preserved : goal.loop-slot-preserved
loop-slot-preserved c = subst (λ (l : List ℕ). AreNumbers l (c.loop-slot.slot + 1)) (sym c.in_ok-push.ensures.items) (numbers_more c.loop-slot.all.items c.loop-slot.slot c.loop-slot.invariant)
