use Rattle.flip_finish.specs.Flipping.{Shortens}
use Rattle.flip_claims.proofs.Picking.{ArePickedTo}
use Rattle.flip_claims.proofs.winners.shortening.Given as goal

abbrev pub invariant-loop-slot : goal.invariant-loop-slot
invariant-loop-slot l = ArePickedTo (Shortens l.points.points l.mesh) l.slots l.found.items l.slot-index
