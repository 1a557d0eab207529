use Rattle.std.proofs.Common.{◌≡◌, ℕ, ◌<◌, length, slice_index}
use Rattle.exact_predicates.specs.Hull.{IsHullPair}
use Rattle.face_optimum.specs.Places.{next_point}
use Rattle.face_optimum.proofs.rim.goes_back.Given as goal

abbrev pub invariant-loop-k : goal.invariant-loop-k
invariant-loop-k l =
    (l.at < length l.hull) × (l.k < length l.cycle → slice_index l.hull l.at ≡ slice_index l.cycle l.k)
    × ((j : ℕ) → j < l.k → IsHullPair l.hull (next_point l.cycle j) (slice_index l.cycle j))
