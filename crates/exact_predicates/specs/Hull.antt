-- The hull of a set of points.
use Rattle.std.specs.Prelude.{◌≡◌, ◌≢◌, ℕ, ◌≤◌, ◌<◌, List, [], ◌∷◌, ◌++◌, length, All, AllPairs, Contains, slice_index, zip, pos, ◌≤ℤ◌}
use Rattle.exact_predicates.specs.declared.point.Point.{Point}
use Rattle.exact_predicates.specs.Plane.{orient, IsBetween}
use Rattle.exact_predicates.specs.PointSet.{point_at}

-- each member of a cyclic list with the next, and the last with the first
abbrev pub ring_pairs : List ℕ → List (ℕ × ℕ)
ring_pairs [] = []
ring_pairs (h ∷ hs) = zip (h ∷ hs) (hs ++ h ∷ [])

-- u to v is a pair of the hull
abbrev pub IsHullPair : List ℕ → ℕ → ℕ → Type 0
IsHullPair hull u v = Contains (ring_pairs hull) (u, v)

-- The hull of the points ps: at least three of their numbers, from 0 on. No point lies to the right of a pair, or
-- between its two ends.
pub record IsHull (ps : List Point) (hull : List ℕ) : Type 0 where
  pub three : 3 ≤ length hull
  pub first : slice_index hull 0 ≡ 0
  pub within : All (λ u. u < length ps) hull
  pub distinct : AllPairs (λ u v. u ≢ v) hull
  pub none_right : (u v r : ℕ) → IsHullPair hull u v → r < length ps
      → pos 0 ≤ℤ orient (point_at ps u) (point_at ps v) (point_at ps r)
  pub none_between : (u v r : ℕ) → IsHullPair hull u v → r < length ps
      → ¬ IsBetween (point_at ps u) (point_at ps v) (point_at ps r)
