-- How far some points reach, and where each stands in their picture.
use Rattle.std.specs.Prelude.{ℕ, ◌+◌, ◌*◌, ◌/◌, max, List, ◌≤ℤ◌, ◌-ℤ◌, pos, neg_ℤ, unsigned_abs, fold}
use Rattle.std.specs.Int.{int_max, int_min}
use Rattle.mwt_base.specs.Limits.{most_coordinate}
use Rattle.exact_predicates.specs.declared.point.Point.{Point}
use Rattle.exact_predicates.specs.PointSet.{point_at}
use Rattle.svg_picture.specs.declared.frame.Frame.{Frame}
use Rattle.svg_picture.specs.declared.frame.Spot.{Spot}

-- a frame that holds one point
abbrev pub frame_at : Point → Frame
frame_at p = record { left = p.x; right = p.x; low = p.y; high = p.y }

-- a frame that reaches to a further point
abbrev pub with_point : Frame → Point → Frame
with_point f p = record {
  left = int_min f.left p.x;
  right = int_max f.right p.x;
  low = int_min f.low p.y;
  high = int_max f.high p.y;
}

-- the least frame that holds all of these points
abbrev pub frame_of : List Point → Frame
frame_of ps = fold with_point (frame_at (point_at ps 0)) ps

abbrev pub width : Frame → ℕ
width f = unsigned_abs (f.right -ℤ f.left)

abbrev pub height : Frame → ℕ
height f = unsigned_abs (f.high -ℤ f.low)

-- the greater of the two, and at least 1
abbrev pub size : Frame → ℕ
size f = max (max (width f) (height f)) 1

-- a distance in the picture, where the longer side of the frame is a million long; rounded down
abbrev pub scaled : Frame → ℕ → ℕ
scaled f distance = 1000000 * distance / size f

-- a point to the right of the left margin, and down from the upper one: y goes upwards
abbrev pub spot_in : Frame → Point → Spot
spot_in f p = record {
  x = 50000 + scaled f (unsigned_abs (p.x -ℤ f.left));
  y = 50000 + scaled f (unsigned_abs (f.high -ℤ p.y));
}

-- a side of the frame with a margin at both ends
abbrev pub extent : Frame → ℕ → ℕ
extent f side = scaled f side + 100000

-- its length on a screen, in pixels
abbrev pub pixels : Frame → ℕ → ℕ
pixels f side = extent f side / 1250

-- no side is further out than a coordinate can be
pub record IsFrameInRange (f : Frame) : Type 0 where
  pub left_least : neg_ℤ (pos most_coordinate) ≤ℤ f.left
  pub left_most : f.left ≤ℤ pos most_coordinate
  pub right_least : neg_ℤ (pos most_coordinate) ≤ℤ f.right
  pub right_most : f.right ≤ℤ pos most_coordinate
  pub low_least : neg_ℤ (pos most_coordinate) ≤ℤ f.low
  pub low_most : f.low ≤ℤ pos most_coordinate
  pub high_least : neg_ℤ (pos most_coordinate) ≤ℤ f.high
  pub high_most : f.high ≤ℤ pos most_coordinate
