use Rattle.std.proofs.Common.{ℕ, ◌<◌, get_or}
use Rattle.dual_checker.specs.Derived.{IsDerivedAt}
use Rattle.dual_checker.proofs.derivations.is_derived.Given as goal

abbrev pub invariant-loop-l : goal.invariant-loop-l
invariant-loop-l l = (j : ℕ) → j < l.l-index → IsDerivedAt l.net l.ranks l.e (get_or l.l-items j 0)
