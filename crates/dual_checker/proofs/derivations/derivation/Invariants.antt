use Rattle.std.proofs.Common.{ℕ, ◌<◌}
use Rattle.dual_checker.specs.Derived.{HasGoodRank}
use Rattle.dual_checker.proofs.derivations.derivation.Given as goal

abbrev pub invariant-loop-e : goal.invariant-loop-e
invariant-loop-e l = (j : ℕ) → j < l.e → HasGoodRank l.net l.ranks j
