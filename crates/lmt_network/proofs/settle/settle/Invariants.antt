use Rattle.std.proofs.Common.{ℕ, List, All, Contains, count_by}
use Rattle.lmt_network.specs.Due.{AreSupportedUnlessDue}
use Rattle.lmt_network.specs.Flags.{live_numbers}
use Rattle.lmt_network.specs.Numbers.{AreClosed}
use Rattle.lmt_network.proofs.settle.settle.Given as goal

abbrev pub invariant-loop-downwards : goal.invariant-loop-downwards
invariant-loop-downwards l = ((es : List ℕ) → AreClosed l.net es → All (Contains (live_numbers l.live)) es) × AreSupportedUnlessDue l.net l.live l.due

abbrev pub decreases-loop-downwards : goal.decreases-loop-downwards
decreases-loop-downwards l = count_by (λ live. live) l.live
