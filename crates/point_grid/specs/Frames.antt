-- What lies in a frame.
use Rattle.std.specs.Prelude.{◌≡◌, ◌⊎◌, ℕ, ◌<◌, List, ◌≤ℤ◌}
use Rattle.exact_predicates.specs.declared.point.Point.{Point}
use Rattle.exact_predicates.specs.PointSet.{point_at}
use Rattle.point_grid.specs.declared.frame.Frame.{Frame}

-- the point lies in the frame or on its rim
pub record IsInFrame (f : Frame) (p : Point) : Type 0 where
  pub left : f.left ≤ℤ p.x
  pub right : p.x ≤ℤ f.right
  pub low : f.low ≤ℤ p.y
  pub high : p.y ≤ℤ f.high

-- each point in the first frame lies in the second
abbrev pub IsWithin : Frame → Frame → Type 0
IsWithin f g = (p : Point) → IsInFrame f p → IsInFrame g p

-- g is the frame f, made as wide as to have the point p
pub record Extends (f : Frame) (p : Point) (g : Frame) : Type 0 where
  pub wider : IsWithin f g
  pub has : IsInFrame g p
  pub left : (g.left ≡ f.left) ⊎ (g.left ≡ p.x)
  pub right : (g.right ≡ f.right) ⊎ (g.right ≡ p.x)
  pub low : (g.low ≡ f.low) ⊎ (g.low ≡ p.y)
  pub high : (g.high ≡ f.high) ⊎ (g.high ≡ p.y)

-- f is the least frame that has the first n points: each of its sides has one
pub record IsFrameOf (ps : List Point) (n : ℕ) (f : Frame) : Type 0 where
  pub has : (r : ℕ) → r < n → IsInFrame f (point_at ps r)
  pub left : (r : ℕ) × (r < n) × (f.left ≡ (point_at ps r).x)
  pub right : (r : ℕ) × (r < n) × (f.right ≡ (point_at ps r).x)
  pub low : (r : ℕ) × (r < n) × (f.low ≡ (point_at ps r).y)
  pub high : (r : ℕ) × (r < n) × (f.high ≡ (point_at ps r).y)
