-- The points after a given one, as they are seen from it.
use Rattle.std.specs.Prelude.{◌≡◌, ◌⊎◌, ℕ, ◌<◌, List, length, slice_index, slice_index_or, All, AllPairs, pos, ◌-ℤ◌, ◌*ℤ◌, ◌<ℤ◌}
use Rattle.std.specs.declared.cmp.Ordering.{Ordering}
use Rattle.std.specs.Ordering.{int_cmp, nat_cmp, ordering_then}
use Rattle.exact_predicates.specs.declared.point.Point.{Point}
use Rattle.exact_predicates.specs.Plane.{orient, IsBetween}
use Rattle.exact_predicates.specs.PointSet.{point_at}
use Rattle.point_grid.specs.declared.sight.Sight.{Sight}

-- no point is between the points a and b
abbrev pub Sees : List Point → ℕ → ℕ → Type 0
Sees ps a b = (r : ℕ) → r < length ps → ¬ IsBetween (point_at ps a) (point_at ps b) (point_at ps r)

-- seen from a, going round to the left, c comes after b: it lies further to the left, or on the same ray and further away
abbrev pub Follows : List Point → ℕ → ℕ → ℕ → Type 0
Follows ps a b c =
    let turn = orient (point_at ps a) (point_at ps b) (point_at ps c) in (pos 0 <ℤ turn) ⊎ ((turn ≡ pos 0) × (b < c))

-- none of these points is between the points a and b
abbrev pub SeesPast : List Point → ℕ → List ℕ → ℕ → Type 0
SeesPast ps a others b = All (λ r. ¬ IsBetween (point_at ps a) (point_at ps b) (point_at ps r)) others

-- numbers of points after a, in the order in which a sees them
pub record AreByDirection (ps : List Point) (a : ℕ) (order : List ℕ) : Type 0 where
  pub each : All (λ b. (a < b) × (b < length ps)) order
  pub sorted : AllPairs (Follows ps a) order

-- how two sights compare: first by direction, going round to the left, and then by number
abbrev pub sight_cmp : Sight → Sight → Ordering
sight_cmp s t = ordering_then (int_cmp (s.height *ℤ t.width) (s.width *ℤ t.height)) (nat_cmp s.number t.number)

-- s is the sight of the point b from a
pub record IsSight (ps : List Point) (a b : ℕ) (s : Sight) : Type 0 where
  pub number : s.number ≡ b
  pub width : s.width ≡ (point_at ps b).x -ℤ (point_at ps a).x
  pub height : s.height ≡ (point_at ps b).y -ℤ (point_at ps a).y

-- the sights of these points from a
pub record AreSights (ps : List Point) (a : ℕ) (numbers : List ℕ) (sights : List Sight) : Type 0 where
  pub count : length sights ≡ length numbers
  pub each : (k : ℕ) (d : Sight) → k < length sights → IsSight ps a (slice_index numbers k) (slice_index_or sights k d)
