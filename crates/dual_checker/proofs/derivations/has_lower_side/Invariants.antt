use Rattle.std.proofs.Common.{ℕ, ◌<◌, get_or, slice_index}
use Rattle.dual_checker.proofs.derivations.has_lower_side.Given as goal

abbrev pub invariant-loop-k : goal.invariant-loop-k
invariant-loop-k l = (j : ℕ) → j < l.k → ¬ ((0 < slice_index l.ranks (get_or l.sides j 0)) × (slice_index l.ranks (get_or l.sides j 0) < l.m))
