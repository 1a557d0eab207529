-- Where queries look for points.
use Rattle.std.specs.Prelude.{ℕ, ◌<◌, ◌≤◌, ◌≡◌, List, pos, ◌<ℤ◌, ◌≤ℤ◌}
use Rattle.exact_predicates.specs.declared.point.Point.{Point}
use Rattle.exact_predicates.specs.Plane.{orient, IsInRange, IsBetween, IsInClosedTriangle, IsInLeftDiamond}
use Rattle.exact_predicates.specs.PointSet.{point_at}
use Rattle.exact_predicates.specs.Triangulation.{IsCorner}
use Rattle.point_grid.specs.declared.frame.Frame.{Frame}
use Rattle.point_grid.specs.declared.bounds.Bounds.{Bounds}
use Rattle.point_grid.specs.declared.region.Region.{Region}
use Rattle.point_grid.specs.declared.region.Region.TheVariants.{Segment, Triangle, Diamond}
use Rattle.point_grid.specs.Cells.{column_of, row_of}

-- the points of the region are in range, and its triangle turns to the left
abbrev pub IsProper : Region → Type 0
IsProper (Segment p q) = IsInRange p × IsInRange q
IsProper (Triangle t a b c) = IsInRange a × IsInRange b × IsInRange c × (pos 0 <ℤ orient a b c)
IsProper (Diamond p q) = IsInRange p × IsInRange q

-- the point x with the number r lies in the region
abbrev pub Lies : Region → ℕ → Point → Type 0
Lies (Segment p q) r x = IsBetween p q x
Lies (Triangle t a b c) r x = (¬ IsCorner t r) × IsInClosedTriangle a b c x
Lies (Diamond p q) r x = IsInLeftDiamond p q x

-- the point lies within the bounds
pub record IsWithinBounds (b : Bounds) (p : Point) : Type 0 where
  pub left : b.left ≤ℤ p.x
  pub right : p.x ≤ℤ b.right
  pub low : b.low ≤ℤ p.y
  pub high : p.y ≤ℤ b.high

-- the point of the number r lies in the region, in this column of cells and in a row from the first to before the end
pub record LiesInColumn (ps : List Point) (g : ℕ) (f : Frame) (region : Region) (column first end : ℕ) (r : ℕ) : Type 0 where
  pub lies : Lies region r (point_at ps r)
  pub column_is : column_of g f (point_at ps r) ≡ column
  pub from : first ≤ row_of g f (point_at ps r)
  pub to : row_of g f (point_at ps r) < end
