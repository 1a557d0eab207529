-- The first points on rays from a point, and which of them see each other past those between.
use Rattle.std.specs.Prelude.{◌≡◌, ℕ, ◌<◌, ◌≤◌, Option, MatchOption, List, length, slice_index, slice_index_or, All, AllPairs, Contains, pos, ◌<ℤ◌}
use Rattle.std.specs.declared.alloc.Global.{Global}
use Rattle.std.specs.declared.vec.Vec.{Vec}
use Rattle.exact_predicates.specs.declared.point.Point.{Point}
use Rattle.exact_predicates.specs.Plane.{orient}
use Rattle.exact_predicates.specs.PointSet.{point_at}

-- one of the heads stands on the ray from a to r, no further away than r
pub record IsOnRay (ps : List Point) (a : ℕ) (heads : List ℕ) (r : ℕ) : Type 0 where
  pub place : ℕ
  pub place_in : place < length heads
  pub on : orient (point_at ps a) (point_at ps (slice_index heads place)) (point_at ps r) ≡ pos 0
  pub near : slice_index heads place ≤ r

-- points after a, going round it to the right
pub record AreTurning (ps : List Point) (a : ℕ) (heads : List ℕ) : Type 0 where
  pub each : All (λ b. (a < b) × (b < length ps)) heads
  pub turning : AllPairs (λ b c. pos 0 <ℤ orient (point_at ps a) (point_at ps c) (point_at ps b)) heads

-- the first on each ray from a, of those in the order, from left to right
pub record AreHeads (ps : List Point) (a : ℕ) (order heads : List ℕ) : Type 0 where
  pub each : All (Contains order) heads
  pub turning : AllPairs (λ b c. pos 0 <ℤ orient (point_at ps a) (point_at ps c) (point_at ps b)) heads
  pub covered : All (IsOnRay ps a heads) order

-- where i comes before k and k before j: seen from the point at j, that at i is turned to the left of that at k
abbrev pub IsAhead : List Point → List ℕ → ℕ → ℕ → ℕ → Type 0
IsAhead ps heads j k i =
    pos 0 <ℤ orient (point_at ps (slice_index heads j)) (point_at ps (slice_index heads k)) (point_at ps (slice_index heads i))

-- the point at j sees that at i past all between: none of them lies in the triangle of the two and a, or on its rim
pub record IsSeen (ps : List Point) (heads : List ℕ) (i j : ℕ) : Type 0 where
  pub before : i < j
  pub past : (k : ℕ) → i < k → k < j → IsAhead ps heads j k i

-- the places that the point at j sees, falling
pub record AreSeen (ps : List Point) (heads : List ℕ) (j : ℕ) (places : List ℕ) : Type 0 where
  pub each : All (λ i. IsSeen ps heads i j) places
  pub all : (i : ℕ) → IsSeen ps heads i j → Contains places i
  pub falling : AllPairs (λ x y. y < x) places

-- such a list for each of the first n places
pub record AreLists (ps : List Point) (heads : List ℕ) (n : ℕ) (seen : List (Vec ℕ Global)) : Type 0 where
  pub count : length seen ≡ n
  pub each : (k : ℕ) (d : Vec ℕ Global) → k < n → AreSeen ps heads k (slice_index_or seen k d).items

-- the greatest place before k that the point at j sees, or none
abbrev pub IsNext : List Point → List ℕ → ℕ → ℕ → Option ℕ → Type 0
IsNext ps heads j k next =
    MatchOption next
    ((m : ℕ) → m < k → ¬ IsSeen ps heads m j)
    (λ i. (i < k) × IsSeen ps heads i j × ((m : ℕ) → i < m → m < k → ¬ IsSeen ps heads m j))
