use Rattle.std.proofs.Common.{◌≡◌, ℕ, ◌<◌, slice_index}
use Rattle.face_optimum.specs.Places.{next_point}
use Rattle.face_optimum.proofs.bounded.is_outer.Given as goal

abbrev pub invariant-loop-place : goal.invariant-loop-place
invariant-loop-place l = (k : ℕ) → k < l.place → ¬ ((slice_index l.cycle k ≡ slice_index l.hull 1) × (next_point l.cycle k ≡ slice_index l.hull 0))
