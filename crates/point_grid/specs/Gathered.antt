-- What is gathered of a window from a tree.
use Rattle.std.specs.Prelude.{◌≡◌, ℕ, ◌≤◌, ◌<◌, List, All, Contains, ◌≤ℤ◌}
use Rattle.point_grid.specs.declared.gathering.Reach.{Reach}
use Rattle.point_grid.specs.declared.spot.Entry.{Entry}
use Rattle.point_grid.specs.declared.spot.Spot.{Spot}
use Rattle.point_grid.specs.declared.window.Window.{Window}
use Rattle.point_grid.specs.Tree.{HasLeaf}

-- the spot lies in the window
pub record HasSpot (w : Window) (s : Spot) : Type 0 where
  pub from : w.from ≤ s.number
  pub to : s.number < w.to
  pub low : w.low ≤ℤ s.point.y
  pub high : s.point.y ≤ℤ w.high

-- the spots of the window lie between its columns
abbrev pub AreColumns : List Entry → Reach → Type 0
AreColumns es r = (k : ℕ) (s : Spot) → HasLeaf es k s → HasSpot r.window s → (r.left ≤ℤ s.point.x) × (s.point.x ≤ℤ r.right)

-- r is the number of a spot of the window
abbrev pub IsNumberIn : List Entry → Window → ℕ → Type 0
IsNumberIn es w r = (k : ℕ) × (s : Spot) × HasLeaf es k s × HasSpot w s × (s.number ≡ r)

-- numbers of spots of the window, with those of all that stand at the entry `end` or after it
pub record AreGathered (es : List Entry) (w : Window) (end : ℕ) (rs : List ℕ) : Type 0 where
  pub each : All (IsNumberIn es w) rs
  pub all : (k : ℕ) (s : Spot) → end ≤ k → HasLeaf es k s → HasSpot w s → Contains rs s.number
