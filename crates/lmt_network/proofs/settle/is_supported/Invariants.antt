use Rattle.std.proofs.Common.{ℕ, ◌<◌, slice_index, Contains}
use Rattle.lmt_network.specs.Flags.{live_numbers}
use Rattle.lmt_network.specs.Numbers.{IsSideOf, IsSupportedWith}
use Rattle.lmt_network.proofs.settle.is_supported.Given as goal

abbrev pub invariant-loop-l : goal.invariant-loop-l
invariant-loop-l l =
    (k : ℕ) → k < l.l-index → ((f : ℕ) → IsSideOf l.net (slice_index l.l-items k) f → Contains (live_numbers l.live) f) → ¬ IsSupportedWith l.net (live_numbers l.live) l.e (slice_index l.l-items k)
