use Rattle.std.proofs.Common.{ℕ, ◌<◌, get_or}
use Rattle.lmt_network.specs.Numbers.{IsMinimalPair}
use Rattle.dual_checker.specs.Derived.{HasLowerSide}
use Rattle.dual_checker.proofs.derivations.is_derived_at.Given as goal

abbrev pub invariant-loop-r : goal.invariant-loop-r
invariant-loop-r l = (j : ℕ) → j < l.r-index → IsMinimalPair l.net l.e l.l (get_or l.r-items j 0) → HasLowerSide l.net l.ranks l.rank (get_or l.r-items j 0)
