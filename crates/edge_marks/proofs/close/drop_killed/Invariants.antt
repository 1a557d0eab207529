use Rattle.std.specs.Mem.Slots.{slots_items}
use Rattle.edge_marks.proofs.Closes.{FlagsTo}
use Rattle.edge_marks.proofs.close.drop_killed.Given as goal

abbrev pub invariant-loop-e : goal.invariant-loop-e
invariant-loop-e l = FlagsTo l.count (slots_items l.closed.words) l.flags l.e
