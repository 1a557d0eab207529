use Rattle.std.proofs.Common.{ℕ, ◌<◌, slice_index}
use Rattle.skeleton_faces.proofs.union.is_one_group.Given as goal

abbrev pub invariant-loop-p : goal.invariant-loop-p
invariant-loop-p l = (k : ℕ) → 0 < k → k < l.p → slice_index l.parents k < k
