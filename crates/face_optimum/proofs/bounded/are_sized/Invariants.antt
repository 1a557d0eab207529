use Rattle.std.proofs.Common.{◌≡◌, ℕ, ◌<◌, false, [], slice_index_or}
use Rattle.face_optimum.specs.Decomposition.{IsSized, is_outer}
use Rattle.face_optimum.proofs.bounded.are_sized.Given as goal

abbrev pub invariant-loop-i : goal.invariant-loop-i
invariant-loop-i l = (k : ℕ) → k < l.i → is_outer l.hull (slice_index_or l.faces k []) ≡ false → IsSized l.most (slice_index_or l.faces k [])
