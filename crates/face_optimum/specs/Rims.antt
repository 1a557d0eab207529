-- What is found of the cycle that is left out.
use Rattle.std.specs.Prelude.{◌≡◌, ◌≢◌, ◌⊎◌, ℕ, ◌+◌, ◌<◌, List, [], ◌∷◌, Option, None, Some, length, filter, slice_index_or, Contains}
use Rattle.exact_predicates.specs.Hull.{ring_pairs, IsHullPair}
use Rattle.face_optimum.specs.Decomposition.{is_outer}

-- the number of the one cycle that is left out, or none where there is none or another one
abbrev pub IsAlone : List ℕ → List (List ℕ) → Option ℕ → Type 0
IsAlone hull cycles None = (c : List ℕ) → filter (is_outer hull) cycles ≢ c ∷ []
IsAlone hull cycles (Some i) = (i < length cycles) × (filter (is_outer hull) cycles ≡ slice_index_or cycles i [] ∷ [])

-- the place m is before the place k, round the list
abbrev pub IsPlaceBefore : List ℕ → ℕ → ℕ → Type 0
IsPlaceBefore hull k m = (m < length hull) × ((m + 1 ≡ k) ⊎ ((k ≡ 0) × (m + 1 ≡ length hull)))

-- each side of the cycle is a pair of the hull the other way
abbrev pub GoesBack : List ℕ → List ℕ → Type 0
GoesBack hull cycle = (u v : ℕ) → Contains (ring_pairs cycle) (v, u) → IsHullPair hull u v
