-- Points with their numbers.
use Rattle.std.specs.Prelude.{◌≡◌, ℕ, ◌<◌, List, length, slice_index_or}
use Rattle.exact_predicates.specs.declared.point.Point.{Point}
use Rattle.exact_predicates.specs.PointSet.{point_at}
use Rattle.point_grid.specs.declared.spot.Spot.{Spot}

-- the spots at the places 0 and on are the first points
pub record AreFirst (ps : List Point) (spots : List Spot) : Type 0 where
  pub number : (k : ℕ) (s : Spot) → k < length spots → (slice_index_or spots k s).number ≡ k
  pub point : (k : ℕ) (s : Spot) → k < length spots → (slice_index_or spots k s).point ≡ point_at ps k

-- the spots are all points in their order
abbrev pub AreNumbered : List Point → List Spot → Type 0
AreNumbered ps spots = (length spots ≡ length ps) × AreFirst ps spots
