-- A square array of cells over the points.
use Rattle.std.specs.Prelude.{◌≡◌, ℕ, ◌+◌, ◌*◌, ◌/◌, ◌<◌, List, [], length, slice_index_or, ℤ, ◌-ℤ◌, unsigned_abs}
use Rattle.std.specs.declared.alloc.Global.{Global}
use Rattle.std.specs.declared.vec.Vec.{Vec}
use Rattle.exact_predicates.specs.declared.point.Point.{Point}
use Rattle.exact_predicates.specs.PointSet.{point_at}
use Rattle.exact_predicates.specs.Root.{IsRootUp}
use Rattle.point_grid.specs.declared.cells.Cells.{Cells}
use Rattle.point_grid.specs.declared.frame.Frame.{Frame}
use Rattle.point_grid.specs.Frames.{IsFrameOf}
use Rattle.point_grid.specs.Listing.{IsListing}

-- c is the number of a cell where there are n points: on each side are as few cells as give one for each
abbrev pub IsCellNumber : ℕ → ℕ → Type 0
IsCellNumber n c = (g : ℕ) × IsRootUp n g × (c < g * g)

-- which of g equal parts of the numbers from low to high has x
abbrev pub part_of : ℕ → ℤ → ℤ → ℤ → ℕ
part_of g low high x = unsigned_abs (x -ℤ low) * g / (unsigned_abs (high -ℤ low) + 1)

-- the column, the row and the cell of a point, with g cells on each side of the frame f
abbrev pub column_of : ℕ → Frame → Point → ℕ
column_of g f p = part_of g f.left f.right p.x

abbrev pub row_of : ℕ → Frame → Point → ℕ
row_of g f p = part_of g f.low f.high p.y

abbrev pub cell_of : ℕ → Frame → Point → ℕ
cell_of g f p = row_of g f p * g + column_of g f p

-- rs are the numbers of the points in the cell c, ascending, with g cells on each side of the frame f
abbrev pub IsCellOver : ℕ → Frame → List Point → ℕ → List ℕ → Type 0
IsCellOver g f ps c rs = IsListing (λ q r. q < r) (λ r. cell_of g f (point_at ps r) ≡ c) (λ r. r < length ps) rs

-- rs are the numbers of the points in the cell c, ascending
pub record IsCell (ps : List Point) (c : ℕ) (rs : List ℕ) : Type 0 where
  pub side : ℕ
  pub frame : Frame
  pub is_side : IsRootUp (length ps) side
  pub is_frame : IsFrameOf ps (length ps) frame
  pub listed : IsCellOver side frame ps c rs

-- the points in their cells
pub record AreCells (ps : List Point) (cells : Cells) : Type 0 where
  pub is_side : IsRootUp (length ps) cells.side
  pub is_frame : IsFrameOf ps (length ps) cells.frame
  pub count : length cells.lists.items ≡ cells.side * cells.side
  pub each : (c : ℕ) (d : Vec ℕ Global) → c < cells.side * cells.side → IsCellOver cells.side cells.frame ps c (slice_index_or cells.lists.items c d).items

-- so many empty lists
pub record AreEmptyLists (count : ℕ) (lists : List (Vec ℕ Global)) : Type 0 where
  pub count_is : length lists ≡ count
  pub each : (k : ℕ) (d : Vec ℕ Global) → k < count → (slice_index_or lists k d).items ≡ []
