-- What is read from cells.
use Rattle.std.proofs.Common.{◌≡◌, ℕ, ◌+◌, ◌*◌, ◌<◌, ◌≤◌, Vec, Global, List, length, get_or, sym, subst, arith}
use Rattle.std.proofs.Math.Nat.{mul-le-mul}
use Rattle.exact_predicates.specs.declared.point.Point.{Point}
use Rattle.exact_predicates.specs.PointSet.{IsPointSet, point_at}
use Rattle.point_grid.specs.declared.cells.Cells.{Cells}
use Rattle.point_grid.specs.Cells.{AreCells, IsCell, IsCellNumber, IsCellOver, column_of, row_of}
use Rattle.point_grid.proofs.CellNumbers.{part_within, side_few, side_only, side_some}

module _ (ps : List Point) (cells : Cells) (h : AreCells ps cells) where
  -- the list of a cell
  pub cell_list : (c : ℕ) (v : Vec ℕ Global) (rs : List ℕ) → c < cells.side * cells.side → v ≡ get_or cells.lists.items c v → rs ≡ v.items → IsCellOver cells.side cells.frame ps c rs
  cell_list c v rs c_in at is = subst (IsCellOver cells.side cells.frame ps c) (sym is) (subst (λ (w : Vec ℕ Global). IsCellOver cells.side cells.frame ps c w.items) (sym at) (h.each c v c_in))

  pub cell_in : (c : ℕ) → IsCellNumber (length ps) c → c < cells.side * cells.side
  cell_in c (g, s, l) = subst (λ (k : ℕ). c < k * k) (side_only (length ps) g cells.side s h.is_side) l

  pub cell_read : (c : ℕ) (v : Vec ℕ Global) (rs : List ℕ) → IsCellNumber (length ps) c → v ≡ get_or cells.lists.items c v → rs ≡ v.items → IsCell ps c rs
  cell_read c v rs number at is =
      record { side = cells.side; frame = cells.frame; is_side = h.is_side; is_frame = h.is_frame; listed = cell_list c v rs (cell_in c number) at is }

  pub sides_few : IsPointSet ps → cells.side ≤ 100
  sides_few v = side_few (length ps) cells.side v.not_more h.is_side

  pub sides_some : IsPointSet ps → 0 < cells.side
  sides_some v = let e = v.enough in side_some (length ps) cells.side (omega arith) h.is_side

  pub column_in : IsPointSet ps → (r : ℕ) → r < length ps → column_of cells.side cells.frame (point_at ps r) < cells.side
  column_in v r l = let i = h.is_frame.has r l in part_within cells.side cells.frame.left cells.frame.right (point_at ps r).x (sides_some v) i.left i.right

  pub row_in : IsPointSet ps → (r : ℕ) → r < length ps → row_of cells.side cells.frame (point_at ps r) < cells.side
  row_in v r l = let i = h.is_frame.has r l in part_within cells.side cells.frame.low cells.frame.high (point_at ps r).y (sides_some v) i.low i.high

-- a cell's number is small
pub cell_small : (g row column : ℕ) → g ≤ 100 → row < g → column < g → row * g + column < 10100
cell_small g row column few r c = let m : row * g ≤ 100 * 100 = mul-le-mul {n₁ = row} {m₁ = g} {n₂ = 100} {m₂ = 100} (omega arith) few in omega arith
