-- The points of a problem.
use Rattle.std.specs.Prelude.{◌≢◌, ℕ, ◌≤◌, ◌<◌, List, length, All, AllPairs, slice_index_or, pos}
use Rattle.mwt_base.specs.Limits.{most_points}
use Rattle.exact_predicates.specs.declared.point.Point.{Point}
use Rattle.exact_predicates.specs.Plane.{IsInRange, Precedes, orient}

-- the points in their order, and how many were dropped for those with equal coordinates
pub record PointSet : Type 0 where
  pub points : List Point
  pub merged : ℕ

-- the point of a number
abbrev pub point_at : List Point → ℕ → Point
point_at ps i = slice_index_or ps i (record { id = 0; x = pos 0; y = pos 0 })

-- some three points do not lie on one line
pub record HasTurn (ps : List Point) : Type 0 where
  pub i : ℕ
  pub j : ℕ
  pub k : ℕ
  pub i_in : i < length ps
  pub j_in : j < length ps
  pub k_in : k < length ps
  pub turn : orient (point_at ps i) (point_at ps j) (point_at ps k) ≢ pos 0

-- what the points of every problem keep
pub record IsPointSet (ps : List Point) : Type 0 where
  pub enough : 3 ≤ length ps
  pub not_more : length ps ≤ most_points
  pub in_range : All IsInRange ps
  pub distinct_ids : AllPairs (λ p q. p.id ≢ q.id) ps
  pub ascending : AllPairs Precedes ps
  pub not_flat : HasTurn ps
