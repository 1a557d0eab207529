use Rattle.std.specs.Mem.Slots.{slots_items}
use Rattle.flip_claims.proofs.Closes.{AreTakenTo}
use Rattle.flip_claims.proofs.close.take_words.Given as goal

abbrev pub invariant-loop-t : goal.invariant-loop-t
invariant-loop-t l = AreTakenTo l.count (slots_items l.closed.words) l.words.items l.t
