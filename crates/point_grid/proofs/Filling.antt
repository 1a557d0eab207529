-- Cells that are filled with one point after the other.
use Rattle.std.proofs.Common.{◌≡◌, ℕ, ◌+◌, ◌*◌, ◌<◌, Vec, Global, List, [], ◌∷◌, ◌++◌, length, get_or, set, refl, sym, subst, arith, ⊎_elim, length-set, ◌∙◌}
use Rattle.std.proofs.Common.{get_or-set_same, get_or-set_other}
use Rattle.std.proofs.lemmas.Bool.{cases_eq}
use Rattle.exact_predicates.specs.declared.point.Point.{Point}
use Rattle.exact_predicates.specs.PointSet.{point_at}
use Rattle.exact_predicates.specs.Root.{IsRootUp}
use Rattle.point_grid.specs.declared.cells.Cells.{Cells}
use Rattle.point_grid.specs.declared.frame.Frame.{Frame}
use Rattle.point_grid.specs.Cells.{cell_of, AreCells, AreEmptyLists}
use Rattle.point_grid.specs.Frames.{IsFrameOf}
use Rattle.point_grid.proofs.Listings.{AreBelow, below_none, below_push, below_skip}

-- the lists of the cells with the first r points
pub record AreFilled (ps : List Point) (g : ℕ) (f : Frame) (r : ℕ) (lists : List (Vec ℕ Global)) : Type 0 where
  pub count : length lists ≡ g * g
  pub each : (c : ℕ) (d : Vec ℕ Global) → c < g * g → AreBelow (λ q. cell_of g f (point_at ps q) ≡ c) r (get_or lists c d).items

module _ (ps : List Point) (g : ℕ) (f : Frame) where
  pub AreFilled-none : (lists : List (Vec ℕ Global)) → AreEmptyLists (g * g) lists → AreFilled ps g f 0 lists
  AreFilled-none lists h = record {
    count = h.count_is;
    each = λ c d l. rw (h.each c d l) (below_none (λ q. cell_of g f (point_at ps q) ≡ c) 0 (λ x k. omega arith));
  }

  -- one more point, in its cell
  AreFilled-push : (r : ℕ) (lists : List (Vec ℕ Global)) (v : Vec ℕ Global) (d0 : Vec ℕ Global) → cell_of g f (point_at ps r) < g * g → v.items ≡ (get_or lists (cell_of g f (point_at ps r)) d0).items ++ r ∷ [] → AreFilled ps g f r lists
      → AreFilled ps g f (r + 1) (set lists (cell_of g f (point_at ps r)) v)
  AreFilled-push r lists v d0 c_in is h = record {
    count = length-set lists (cell_of g f (point_at ps r)) v ∙ h.count;
    each = λ c d l.
        ⊎_elim
        (λ e. subst (λ (k : ℕ). AreBelow (λ q. cell_of g f (point_at ps q) ≡ k) (r + 1) (get_or (set lists (cell_of g f (point_at ps r)) v) k d).items) e (rw (get_or-set_same lists (cell_of g f (point_at ps r)) v d (omega (arith, h.count)), is)
        (below_push (λ q. cell_of g f (point_at ps q) ≡ cell_of g f (point_at ps r)) r _ refl (h.each (cell_of g f (point_at ps r)) d0 c_in))))
        (λ away. rw (get_or-set_other lists (cell_of g f (point_at ps r)) c v d (λ e. away (sym e)))
        (below_skip (λ q. cell_of g f (point_at ps q) ≡ c) r _ (λ e. away e) (h.each c d l)))
        (cases_eq (cell_of g f (point_at ps r)) c);
  }

  -- whose number is known
  pub AreFilled-push_at : (r : ℕ) (lists : List (Vec ℕ Global)) (v d0 : Vec ℕ Global) (c0 : ℕ) → cell_of g f (point_at ps r) ≡ c0 → c0 < g * g → v.items ≡ (get_or lists c0 d0).items ++ r ∷ [] → AreFilled ps g f r lists → AreFilled ps g f (r + 1) (set lists c0 v)
  AreFilled-push_at r lists v d0 c0 e =
      subst (λ (k : ℕ). k < g * g → v.items ≡ (get_or lists k d0).items ++ r ∷ [] → AreFilled ps g f r lists → AreFilled ps g f (r + 1) (set lists k v)) e (AreFilled-push r lists v d0)

-- with all points
pub cells_made : (ps : List Point) (cells : Cells) → IsRootUp (length ps) cells.side → IsFrameOf ps (length ps) cells.frame → (r : ℕ) → r ≡ length ps → AreFilled ps cells.side cells.frame r cells.lists.items → AreCells ps cells
cells_made ps cells side frame r e h = record {
  is_side = side;
  is_frame = frame;
  count = h.count;
  each = λ c d l. subst (λ (n : ℕ). AreBelow (λ q. cell_of cells.side cells.frame (point_at ps q) ≡ c) n (get_or cells.lists.items c d).items) e (h.each c d l);
}
