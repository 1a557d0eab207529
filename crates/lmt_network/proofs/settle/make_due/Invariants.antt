use Rattle.std.proofs.Common.{ℕ, ◌<◌, slice_index}
use Rattle.lmt_network.specs.Due.{AreSidesDue, StayDue}
use Rattle.lmt_network.proofs.settle.make_due.Given as goal

abbrev pub invariant-loop-t : goal.invariant-loop-t
invariant-loop-t l = StayDue l.initial.due l.due × ((k : ℕ) → k < l.t-index → AreSidesDue l.net l.live (slice_index l.tris k) l.due)
