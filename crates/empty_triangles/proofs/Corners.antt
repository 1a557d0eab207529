-- The window of a first corner.
use Rattle.std.proofs.Common.{◌≡◌, ◌⊎◌, ◌↔◌, Bool, false, IsTrue, ℕ, ◌+◌, ◌<◌, ◌≤◌, pos, ◌<ℤ◌, ◌≤ℤ◌, List, [], ◌∷◌, ◌++◌, length, slice_index, slice_index_or, Contains, arith, ap, sym, ◌∙◌, subst, inl, inr, ⊎_elim}
use Rattle.std.proofs.lemmas.Bool.{cases_eq}
use Rattle.std.proofs.lemmas.Int.{ints}
use Rattle.std.proofs.lemmas.List.{get_or_append_left, get_or_push, length_push}
use Rattle.std.proofs.lemmas.List.Sorted.{Contains-permutation}
use Rattle.std.specs.List.Sorted.{IsPermutation}
use Rattle.exact_predicates.specs.declared.edge.Edge.{Edge}
use Rattle.exact_predicates.specs.declared.point.Point.{Point}
use Rattle.exact_predicates.specs.Candidates.{HasEdge}
use Rattle.exact_predicates.specs.Plane.{orient, IsInClosedTriangle}
use Rattle.exact_predicates.specs.PointSet.{IsPointSet, point_at}
use Rattle.exact_predicates.proofs.Numbers.{triangle_numbers}
use Rattle.exact_predicates.proofs.Triangles.{triangle_y_at_least, triangle_y_at_most}
use Rattle.point_grid.specs.declared.window.Window.{Window}
use Rattle.point_grid.specs.Directions.{AreByDirection}
use Rattle.point_grid.specs.Windows.{IsIn, AreAllIn}
use Rattle.empty_triangles.specs.Enumeration.{IsRow}
use Rattle.empty_triangles.specs.Rays.{IsOnRay, AreHeads}
use Rattle.empty_triangles.specs.Corners.{Widens, IsAround, IsCorner}
use Rattle.empty_triangles.proofs.Heads.{turning_heads}

-- a point in the triangle of a and two points of its window is in the window
pub IsIn-triangle : (ps : List Point) (a b c r : ℕ) (w : Window) → IsPointSet ps → a < length ps → b < length ps → c < length ps → r < length ps → w.from ≡ a + 1 → w.low ≤ℤ (point_at ps a).y → (point_at ps a).y ≤ℤ w.high
    → IsIn ps w b → IsIn ps w c → pos 0 <ℤ orient (point_at ps a) (point_at ps b) (point_at ps c) → IsInClosedTriangle (point_at ps a) (point_at ps b) (point_at ps c) (point_at ps r) → (r ≡ a) ⊎ IsIn ps w r
IsIn-triangle ps a b c r w v a_in b_in c_in r_in from low high hb hc left inside =
    let n = triangle_numbers ps a b c r v a_in b_in c_in r_in left inside in
    let bf = hb.from in
    let cf = hc.from in
    let bt = hb.to in
    let ct = hc.to in
    ⊎_elim
    (λ e. inl e)
    (λ differs. inr (record {
      from = omega (arith, n.0);
      to = omega (arith, n.1);
      low = triangle_y_at_least _ _ _ _ w.low left inside low hb.low hc.low;
      high = triangle_y_at_most _ _ _ _ w.high left inside high hb.high hc.high;
    }))
    (cases_eq r a)

-- the first points on the rays to those of the window serve the corner
pub IsCorner-window : (ps : List Point) (es : List Edge) (a : ℕ) (row numbers order heads : List ℕ) (w : Window) → IsPointSet ps → a < length ps → IsRow es a row → IsAround ps a row w → AreAllIn ps w numbers → IsPermutation numbers order → AreByDirection ps a order → AreHeads ps a order heads → IsCorner ps es a row heads
IsCorner-window ps es a row numbers order heads w v a_in r around all moved seen h = record {
  neighbors = r;
  around = turning_heads ps a order heads seen h;
  ends = λ k d l. has _ (around.each k d l);
  inside = λ b c x hb hc x_in left inside.
      let wb = member b hb in
      let wc = member c hc in
      let bt = wb.to in
      let ct = wc.to in
      let t = around.to in
      ⊎_elim (λ e. inl e) (λ m. inr (has x m))
      (IsIn-triangle ps a b c x w v a_in (omega arith) (omega arith) x_in around.from around.low around.high wb wc left inside);
}
  where
    has : (x : ℕ) → IsIn ps w x → IsOnRay ps a heads x
    has x m =
        let (k, k_in, at_k) = Contains-permutation numbers order x moved (all.all x m) in
        subst (IsOnRay ps a heads) at_k (h.covered k x k_in)

    member : (b : ℕ) → Contains row b → IsIn ps w b
    member b (k, k_in, at_k) = subst (IsIn ps w) at_k (around.each k b k_in)

-- whether the sides to c are edges, where c is in the row
pub IsRow-joins : (es : List Edge) (a : ℕ) (row : List ℕ) (b c : ℕ) (found : Bool) → IsRow es a row → a < c → Contains row c → IsTrue found ↔ HasEdge es b c → IsTrue found ↔ (HasEdge es a c × HasEdge es b c)
IsRow-joins es a row b c found r up (k, k_in, at_k) h = (λ t. (subst (HasEdge es a) at_k (r.each k c k_in).1, h.0 t), λ e. h.1 e.1)

-- a wider window has the points of the first
pub IsIn-wider : (ps : List Point) (w v : Window) (b : ℕ) (p : Point) (r : ℕ) → Widens w b p v → IsIn ps w r → IsIn ps v r
IsIn-wider ps w v b p r h i =
    let wider = h.to in
    let low = h.low in
    let high = h.high in
    let from = h.from in
    let i0 = i.from in
    let i1 = i.to in
    let i2 = i.low in
    let i3 = i.high in
    record { from = omega arith; to = omega arith; low = omega (arith, ints); high = omega (arith, ints) }

-- and the new one
pub IsIn-new : (ps : List Point) (w v : Window) (b : ℕ) (p : Point) → Widens w b p v → w.from ≤ b → p ≡ point_at ps b → IsIn ps v b
IsIn-new ps w v b p h up at =
    let from = h.from in
    record { from = omega arith; to = h.past; low = rw at at h.above; high = rw at at h.below }

-- the first n of the heads have their marks
pub record AreMarkedTo (row heads : List ℕ) (n : ℕ) (marks : List Bool) : Type 0 where
  pub count : length marks ≡ n
  pub each : (k : ℕ) → k < n → IsTrue (slice_index_or marks k false) ↔ Contains row (slice_index heads k)

-- one more
pub AreMarkedTo-push : (row heads : List ℕ) (n : ℕ) (marks : List Bool) (b : Bool) → AreMarkedTo row heads n marks → IsTrue b ↔ Contains row (slice_index heads n)
    → AreMarkedTo row heads (n + 1) (marks ++ b ∷ [])
AreMarkedTo-push row heads n marks b m is =
    record {
      count = length_push marks b ∙ ap (λ k. k + 1) m.count;
      each = λ k k_in. ⊎_elim
          (λ (here : k ≡ n). subst (λ i. IsTrue (slice_index_or (marks ++ b ∷ []) i false) ↔ Contains row (slice_index heads i)) (sym here)
          (subst (λ x. IsTrue x ↔ Contains row (slice_index heads n)) (sym (get_or_push marks b false n m.count)) is))
          (λ other. subst (λ x. IsTrue x ↔ Contains row (slice_index heads k)) (sym (get_or_append_left marks (b ∷ []) false k (omega (arith, m.count)))) (m.each k (omega arith)))
          (cases_eq k n);
    }
