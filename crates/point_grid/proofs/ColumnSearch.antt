-- The search cell by cell, and column by column.
use Rattle.std.proofs.Common.{◌≡◌, ◌⊎◌, ℕ, ◌+◌, ◌*◌, ◌<◌, ◌≤◌, ◌≤ℤ◌, Option, Some, None, is_some, IsTrue, List, length, Contains, inl, inr, ⊎_elim, arith, refl, ap, ◌∙◌, subst}
use Rattle.std.proofs.lemmas.Bool.{cases_lt}
use Rattle.std.proofs.lemmas.Int.{ints}
use Rattle.exact_predicates.specs.declared.point.Point.{Point}
use Rattle.exact_predicates.specs.Plane.{Precedes}
use Rattle.exact_predicates.specs.PointSet.{IsPointSet, point_at}
use Rattle.exact_predicates.proofs.Numbers.{IsOrdered-points}
use Rattle.point_grid.specs.declared.cells.Cells.{Cells}
use Rattle.point_grid.specs.declared.region.Region.{Region}
use Rattle.point_grid.specs.Cells.{AreCells, IsCellOver, cell_of, column_of, row_of}
use Rattle.point_grid.specs.First.{IsFirst, lesser_of}
use Rattle.point_grid.specs.Regions.{Lies, LiesInColumn}
use Rattle.point_grid.proofs.CellLists.{column_in}
use Rattle.point_grid.proofs.CellNumbers.{cell_parts, part_rises}
use Rattle.point_grid.proofs.LeastNumbers.{IsFirst-either, IsFirst-same}

before_x : (p q : Point) → Precedes p q → p.x ≤ℤ q.x
before_x p q = ⊎_elim (λ l. omega (arith, ints)) (λ h. let e = h.0 in omega (arith, ints))

module _ (ps : List Point) (cells : Cells) (region : Region) (v : IsPointSet ps) (h : AreCells ps cells) where
  abbrev Found : ℕ → ℕ → ℕ → ℕ → Type 0
  Found column first end r = LiesInColumn ps cells.side cells.frame region column first end r

  -- one cell more of a column
  pub row_next : (column first row : ℕ) (rs : List ℕ) (a b : Option ℕ) → column < cells.side → first ≤ row → IsCellOver cells.side cells.frame ps (row * cells.side + column) rs
      → IsFirst (length ps) (LiesInColumn ps cells.side cells.frame region column first row) a → IsFirst (length ps) (λ r. Contains rs r × Lies region r (point_at ps r)) b
      → IsFirst (length ps) (LiesInColumn ps cells.side cells.frame region column first (row + 1)) (lesser_of a b)
  row_next column first row rs a b c_in up list old new =
      IsFirst-same (length ps) (λ r. Found column first row r ⊎ (Contains rs r × Lies region r (point_at ps r))) (Found column first (row + 1)) (lesser_of a b)
      (λ r l. ⊎_elim
      (λ f. let t = f.to in record { lies = f.lies; column_is = f.column_is; from = f.from; to = omega arith })
      (λ f. let place = cell_parts cells.side (row_of cells.side cells.frame (point_at ps r)) (column_of cells.side cells.frame (point_at ps r)) row column (column_in ps cells h v r l) c_in (in_cell r f.0) in
      let p0 = place.0 in
      record { lies = f.1; column_is = place.1; from = omega arith; to = omega arith }))
      (λ r l f. let t = f.to in
      ⊎_elim
      (λ k. inl (record { lies = f.lies; column_is = f.column_is; from = f.from; to = k }))
      (λ k. let same : row_of cells.side cells.frame (point_at ps r) ≡ row = omega arith in
      inr (list.all r l (ap (λ i. i * cells.side + column_of cells.side cells.frame (point_at ps r)) same ∙ ap (λ i. row * cells.side + i) f.column_is), f.lies))
      (cases_lt (row_of cells.side cells.frame (point_at ps r)) row))
      (IsFirst-either (length ps) (Found column first row) (λ r. Contains rs r × Lies region r (point_at ps r)) a b old new)
    where
      in_cell : (r : ℕ) → Contains rs r → cell_of cells.side cells.frame (point_at ps r) ≡ row * cells.side + column
      in_cell r (k, k_in, at_k) = subst (λ (q : ℕ). cell_of cells.side cells.frame (point_at ps q) ≡ row * cells.side + column) at_k (list.each k r k_in)

  -- a lesser number is in no column after
  column_before : (i j : ℕ) → j < i → i < length ps → column_of cells.side cells.frame (point_at ps j) ≤ column_of cells.side cells.frame (point_at ps i)
  column_before i j l i_in =
      let o = IsOrdered-points ps v in
      part_rises cells.side cells.frame.left cells.frame.right (point_at ps j).x (point_at ps i).x (h.is_frame.has j (omega arith)).left (before_x (point_at ps j) (point_at ps i) (o.rising j i l i_in))

  module _ (column first end : ℕ) (within : (r : ℕ) → r < length ps → Lies region r (point_at ps r) → (first ≤ row_of cells.side cells.frame (point_at ps r)) × (row_of cells.side cells.frame (point_at ps r) < end))
      (none : (r : ℕ) → r < length ps → Lies region r (point_at ps r) → column ≤ column_of cells.side cells.frame (point_at ps r)) where
    here : (r : ℕ) → r < length ps → Lies region r (point_at ps r) → column_of cells.side cells.frame (point_at ps r) ≡ column → Found column first end r
    here r l lies at = record { lies = lies; column_is = at; from = (within r l lies).0; to = (within r l lies).1 }

    -- the first column with a point of the region has the least one
    pub column_found : (a : Option ℕ) → IsTrue (is_some a) → IsFirst (length ps) (LiesInColumn ps cells.side cells.frame region column first end) a → IsFirst (length ps) (λ r. Lies region r (point_at ps r)) a
    column_found None some f = absurd (cc)
    column_found (Some i) some f = record {
      within = f.within;
      holds = f.holds.lies;
      least = λ j l lies.
          let i_in = f.within in
          let at_i = f.holds.column_is in
          f.least j l (here j (omega arith) lies (omega (arith, column_before i j l i_in, none j (omega arith) lies)));
    }

    -- where it has none, the columns after it are left
    pub column_passed : (a : Option ℕ) → (¬ IsTrue (is_some a)) → IsFirst (length ps) (LiesInColumn ps cells.side cells.frame region column first end) a → (r : ℕ) → r < length ps → Lies region r (point_at ps r) → column + 1 ≤ column_of cells.side cells.frame (point_at ps r)
    column_passed None empty f r l lies =
        let up = none r l lies in
        ⊎_elim
        (λ k. absurd (f r l (here r l lies (omega arith))))
        (λ k. k)
        (cases_lt (column_of cells.side cells.frame (point_at ps r)) (column + 1))
    column_passed (Some i) empty f r l lies = absurd (empty refl)
