-- Points in a window.
use Rattle.std.specs.Prelude.{◌≢◌, ℕ, ◌≤◌, ◌<◌, List, All, AllPairs, Contains, ◌≤ℤ◌}
use Rattle.exact_predicates.specs.declared.point.Point.{Point}
use Rattle.exact_predicates.specs.PointSet.{point_at}
use Rattle.point_grid.specs.declared.window.Window.{Window}

-- the point with the number r lies in the window: its number and its y are within these bounds
pub record IsIn (ps : List Point) (w : Window) (r : ℕ) : Type 0 where
  pub from : w.from ≤ r
  pub to : r < w.to
  pub low : w.low ≤ℤ (point_at ps r).y
  pub high : (point_at ps r).y ≤ℤ w.high

-- the numbers of the points in the window, each once, in any order
pub record AreAllIn (ps : List Point) (w : Window) (rs : List ℕ) : Type 0 where
  pub each : All (IsIn ps w) rs
  pub all : (r : ℕ) → IsIn ps w r → Contains rs r
  pub distinct : AllPairs (λ q r. q ≢ r) rs
