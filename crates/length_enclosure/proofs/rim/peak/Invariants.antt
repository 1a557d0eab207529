use Rattle.std.proofs.Common.{length, ◌-◌, ℕ, ◌+◌, ◌<◌, slice_index}
use Rattle.length_enclosure.proofs.rim.peak.Given as goal

abbrev pub invariant-loop-top : goal.invariant-loop-top
invariant-loop-top l =
    record { in_range : l.top < length l.ring; rises : (k : ℕ) → k < l.top → slice_index l.ring k < slice_index l.ring (k + 1) }

abbrev pub decreases-loop-top : goal.decreases-loop-top
decreases-loop-top l = length l.ring - l.top
