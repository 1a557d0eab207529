use Rattle.std.proofs.Common.{ℕ, ◌<◌, slice_index, Contains}
use Rattle.lmt_network.specs.Flags.{live_numbers}
use Rattle.lmt_network.specs.Numbers.{IsSideOf, IsMinimalPair}
use Rattle.lmt_network.proofs.settle.is_supported_with.Given as goal

abbrev pub invariant-loop-r : goal.invariant-loop-r
invariant-loop-r l =
    (k : ℕ) → k < l.r-index → IsMinimalPair l.net l.e l.l (slice_index l.r-items k) → ¬ ((f : ℕ) → IsSideOf l.net (slice_index l.r-items k) f → Contains (live_numbers l.live) f)
