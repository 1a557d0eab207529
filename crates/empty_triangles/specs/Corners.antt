-- What is known of a first corner.
use Rattle.std.specs.Prelude.{◌≡◌, ◌⊎◌, ◌↔◌, Bool, false, IsTrue, ℕ, ◌+◌, ◌<◌, ◌≤◌, List, length, slice_index, slice_index_or, All, Contains, pos, ◌<ℤ◌, ◌≤ℤ◌}
use Rattle.exact_predicates.specs.declared.edge.Edge.{Edge}
use Rattle.exact_predicates.specs.declared.point.Point.{Point}
use Rattle.exact_predicates.specs.Plane.{orient, IsInClosedTriangle}
use Rattle.exact_predicates.specs.PointSet.{point_at}
use Rattle.point_grid.specs.declared.window.Window.{Window}
use Rattle.point_grid.specs.Windows.{IsIn}
use Rattle.empty_triangles.specs.Enumeration.{IsRow}
use Rattle.empty_triangles.specs.Rays.{AreTurning, IsOnRay}

-- w' is w, made as wide as to have the point p with the number b
pub record Widens (w : Window) (b : ℕ) (p : Point) (w' : Window) : Type 0 where
  pub from : w'.from ≡ w.from
  pub to : w.to ≤ w'.to
  pub low : w'.low ≤ℤ w.low
  pub high : w.high ≤ℤ w'.high
  pub past : b < w'.to
  pub above : w'.low ≤ℤ p.y
  pub below : p.y ≤ℤ w'.high
  pub least : (w'.to ≡ w.to) ⊎ (w'.to ≡ b + 1)

-- the window begins after the point a, is as high as to it, and has these points
pub record IsAround (ps : List Point) (a : ℕ) (numbers : List ℕ) (w : Window) : Type 0 where
  pub from : w.from ≡ a + 1
  pub to : w.to ≤ length ps
  pub low : w.low ≤ℤ (point_at ps a).y
  pub high : (point_at ps a).y ≤ℤ w.high
  pub each : All (IsIn ps w) numbers

-- The first corner a: the greater ends of its edges, and points after it, going round it to the right. On the ray to
-- each of these ends, and to each point in a triangle of a and two of them, one of the points comes first.
pub record IsCorner (ps : List Point) (es : List Edge) (a : ℕ) (row heads : List ℕ) : Type 0 where
  pub neighbors : IsRow es a row
  pub around : AreTurning ps a heads
  pub ends : All (IsOnRay ps a heads) row
  pub inside : (b c r : ℕ) → Contains row b → Contains row c → r < length ps
      → pos 0 <ℤ orient (point_at ps a) (point_at ps b) (point_at ps c)
      → IsInClosedTriangle (point_at ps a) (point_at ps b) (point_at ps c) (point_at ps r) → (r ≡ a) ⊎ IsOnRay ps a heads r

-- a mark for each of the heads, which says whether it is in the row
pub record AreMarked (row heads : List ℕ) (marks : List Bool) : Type 0 where
  pub count : length marks ≡ length heads
  pub each : (k : ℕ) → k < length heads → IsTrue (slice_index_or marks k false) ↔ Contains row (slice_index heads k)
