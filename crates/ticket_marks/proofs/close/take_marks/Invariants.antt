use Rattle.std.specs.Mem.Slots.{slots_items}
use Rattle.ticket_marks.proofs.Closes.{AreTakenTo}
use Rattle.ticket_marks.proofs.close.take_marks.Given as goal

abbrev pub invariant-loop-e : goal.invariant-loop-e
invariant-loop-e l = AreTakenTo l.count (slots_items l.closed.words) l.ranks l.e
