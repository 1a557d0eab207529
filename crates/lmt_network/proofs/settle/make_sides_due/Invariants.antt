use Rattle.std.proofs.Common.{◌≡◌, ℕ, ◌<◌, true, false, slice_index, slice_index_or}
use Rattle.lmt_network.specs.Due.{StayDue}
use Rattle.lmt_network.proofs.settle.make_sides_due.Given as goal

abbrev pub invariant-loop-f : goal.invariant-loop-f
invariant-loop-f l = StayDue l.initial.due l.due × ((k : ℕ) → k < l.f-index → slice_index_or l.due (slice_index l.f-items k) false ≡ true)
