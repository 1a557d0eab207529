-- Trees of frames over points, as lists of entries: each fork comes after its parts.
use Rattle.std.specs.Prelude.{◌≡◌, ◌⊎◌, ℕ, ◌≤◌, ◌<◌, List, length, slice_index_or, Contains}
use Rattle.exact_predicates.specs.declared.point.Point.{Point}
use Rattle.exact_predicates.specs.PointSet.{point_at}
use Rattle.point_grid.specs.declared.frame.Frame.{Frame}
use Rattle.point_grid.specs.declared.spot.Entry.{Entry}
use Rattle.point_grid.specs.declared.spot.Entry.TheVariants.{Leaf, Fork}
use Rattle.point_grid.specs.declared.spot.Spot.{Spot}
use Rattle.point_grid.specs.Frames.{IsInFrame}

-- the entry k is the spot s
abbrev pub HasLeaf : List Entry → ℕ → Spot → Type 0
HasLeaf es k s = (k < length es) × (slice_index_or es k (Leaf s) ≡ Leaf s)

-- the entry k is the frame f round the spots from the entry start on
abbrev pub HasFork : List Entry → ℕ → Frame → ℕ → Type 0
HasFork es k f start = (k < length es) × (slice_index_or es k (Fork f start) ≡ Fork f start)

-- each frame comes after its start, and has the spots between
pub record AreFramed (es : List Entry) : Type 0 where
  pub starts : (k : ℕ) (f : Frame) (start : ℕ) → HasFork es k f start → start ≤ k
  pub framed : (k : ℕ) (f : Frame) (start i : ℕ) (s : Spot) → HasFork es k f start → start ≤ i → i < k → HasLeaf es i s → IsInFrame f s.point

-- the spots are the points ps with their numbers
pub record AreSpotsOf (ps : List Point) (es : List Entry) : Type 0 where
  pub each : (k : ℕ) (s : Spot) → HasLeaf es k s → (s.number < length ps) × (s.point ≡ point_at ps s.number)
  pub all : (n : ℕ) → n < length ps → (k : ℕ) × (s : Spot) × HasLeaf es k s × (s.number ≡ n)

-- new entries after the old ones, whose spots are those that are P
pub record Grows (old new : List Entry) (P : Spot → Type 0) : Type 0 where
  pub longer : length old ≤ length new
  pub kept : (k : ℕ) (e : Entry) → k < length old → slice_index_or new k e ≡ slice_index_or old k e
  pub framed : AreFramed new
  pub each : (k : ℕ) (s : Spot) → length old ≤ k → HasLeaf new k s → P s
  pub all : (s : Spot) → P s → (k : ℕ) × (length old ≤ k) × HasLeaf new k s

-- s is the spot `head` or one of the others
abbrev pub IsHeadOrAmong : Spot → List Spot → Spot → Type 0
IsHeadOrAmong head others s = (head ≡ s) ⊎ Contains others s
