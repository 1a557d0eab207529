-- What lies in a view.
use Rattle.std.specs.Prelude.{ℤ, ◌≤ℤ◌}
use Rattle.point_grid.specs.declared.frame.View.{View}

-- the vector to (x, y) ends in the view
pub record IsInView (v : View) (x y : ℤ) : Type 0 where
  pub left : v.left ≤ℤ x
  pub right : x ≤ℤ v.right
  pub low : v.low ≤ℤ y
  pub high : y ≤ℤ v.high
