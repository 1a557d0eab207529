-- What a flip of faces and slots does to the mesh that they show.
use Rattle.std.proofs.Common.{◌≡◌, ◌≢◌, ℕ, ◌<◌, ◌≤◌, List, length, set, sum_by, All, Option, Some, arith, ap, sym, ◌∙◌, refl, subst, ⊎_elim, ◌⊎◌, inl, inr}
use Rattle.std.proofs.lemmas.Bool.{cases_lt, cond-false, cond-true, le-ltb, lt-ltb}
use Rattle.std.proofs.lemmas.List.{length-map, length-set, map-set}
use Rattle.std.proofs.lemmas.List.Elements.{All-set}
use Rattle.std.proofs.lemmas.List.Sums.{sum_by-set}
use Rattle.std.proofs.Math.Seq.{map-set_same}
use Rattle.exact_predicates.specs.declared.edge.Edge.{Edge}
use Rattle.exact_predicates.specs.declared.point.Point.{Point}
use Rattle.exact_predicates.specs.declared.tri.Tri.{Tri}
use Rattle.exact_predicates.specs.Candidates.{Joins}
use Rattle.exact_predicates.specs.Flip.{IsFlip, IsShortening}
use Rattle.exact_predicates.specs.Plane.{d2}
use Rattle.exact_predicates.specs.PointSet.{point_at}
use Rattle.exact_predicates.proofs.Corners.{from_corners, to_corners}
use Rattle.exact_predicates.proofs.Equalities.{Joins-comm}
use Rattle.exact_predicates.proofs.Orientation.{d2_comm}
use Rattle.flip_finish.specs.declared.face.Face.{Face}
use Rattle.flip_finish.specs.declared.slot.Slot.{Slot}
use Rattle.flip_finish.specs.Face.{face_tris}
use Rattle.flip_finish.specs.Flipping.{IsSameBut, slot_d2}
use Rattle.flip_finish.specs.Mesh.{HasLeft, IsWithin, slot_edges, triangle_left}
use Rattle.flip_finish.specs.Places.{IsAt}
use Rattle.flip_finish.specs.Slot.{with_left}
use Rattle.flip_finish.proofs.Faces.{HasSideAt-corners, first_side}
use Rattle.flip_finish.proofs.FlipSteps.{Step, new_faces, new_slots, with_diagonal, with_ub, at_bv, at_ub, at_uv, at_va, i_j, ub_slot_apart, va_slot_apart}
use Rattle.flip_finish.proofs.Slots.{HasLeft-apart, HasLeft-ends, left_down, left_up, with_left_here}
use Rattle.flip_finish.proofs.Standing.{IsAt-map, IsAt-only, IsAt-set, IsAt-set_other}

-- the list of triangles is flipped
unfoldable pub IsFlip-step : (s : Step) → IsFlip (face_tris s.faces) (face_tris (new_faces s)) s.u s.v s.a s.b
IsFlip-step s =
    let tri : Face → Tri = λ f. f.tri in
    record {
      i = s.i;
      j = s.j;
      i_in = omega (arith, length-map s.faces tri, s.left_at.inside);
      j_in = omega (arith, length-map s.faces tri, s.right_at.inside);
      i_j = i_j s;
      left = s.left.tri;
      right = s.right.tri;
      left_at = (IsAt-map tri s.faces s.i s.left s.left_at).is;
      right_at = (IsAt-map tri s.faces s.j s.right s.right_at).is;
      left_is = HasSideAt-corners s.left s.u s.v s.a s.slot (first_side s.left s.left_is);
      right_is = HasSideAt-corners s.right s.v s.u s.b s.slot (first_side s.right s.right_is);
      top = s.top.tri;
      bottom = s.bottom.tri;
      top_is = HasSideAt-corners s.top s.u s.b s.a s.ub (first_side s.top s.top_is);
      bottom_is = HasSideAt-corners s.bottom s.v s.a s.b s.va (first_side s.bottom s.bottom_is);
      after = map-set tri (set s.faces s.i s.top) s.j s.bottom ∙ ap (λ l. set l s.j s.bottom.tri) (map-set tri s.faces s.i s.top);
    }

-- two of the slots are written with the edge that they had
pub edges-step : (s : Step) → slot_edges (new_slots s) ≡ set (slot_edges s.slots) s.slot s.diagonal.edge
edges-step s =
    let edge : Slot → Edge = λ k. k.edge in
    map-set_same edge (with_ub s) s.va (with_left s.va_slot s.v s.a s.j) s.va_slot (ap edge (sym s.va_at.is))
    ∙ (map-set_same edge (with_diagonal s) s.ub (with_left s.ub_slot s.u s.b s.i) s.ub_slot (ap edge (sym s.ub_at.is))
    ∙ map-set edge s.slots s.slot s.diagonal)

pub length-step : (s : Step) → length (new_slots s) ≡ length s.slots
length-step s =
    length-set (with_ub s) s.va (with_left s.va_slot s.v s.a s.j)
    ∙ (length-set (with_diagonal s) s.ub (with_left s.ub_slot s.u s.b s.i) ∙ length-set s.slots s.slot s.diagonal)

-- the two are different
ub_va : (s : Step) → s.va ≢ s.ub
ub_va s e =
    ⊎_elim
    (λ k. u_v (sym k.0))
    (λ k. b_v (sym k.0))
    (HasLeft-ends s.slots s.ub s.v s.a s.i s.u s.b s.j (subst (λ n. HasLeft s.slots n s.v s.a s.i) e (at_va s)) (at_ub s))
  where
    u_v : s.u ≢ s.v
    u_v = HasLeft-apart s.slots s.slot s.u s.v s.i (at_uv s)

    b_v : s.b ≢ s.v
    b_v = HasLeft-apart s.slots s.bv s.b s.v s.j (at_bv s)

-- a slot after the write of one side
pub record IsMoved (i j : ℕ) (old new : Slot) : Type 0 where
  pub edge : new.edge ≡ old.edge
  pub left : IsSameBut i j old.left new.left
  pub right : IsSameBut i j old.right new.right

IsMoved-same : (i j : ℕ) (old new : Slot) → old ≡ new → IsMoved i j old new
IsMoved-same i j old new e =
    record { edge = ap (λ s. s.edge) (sym e); left = inl (ap (λ s. s.left) e); right = inl (ap (λ s. s.right) e) }

-- where t is written for r, and these two are i and j
IsMoved-write : (i j x y r t : ℕ) (s : Slot) → triangle_left s x y ≡ Some r → ((r ≡ i) × (t ≡ j)) ⊎ ((r ≡ j) × (t ≡ i)) → IsMoved i j s (with_left s x y t)
IsMoved-write i j x y r t s h moved =
    ⊎_elim
    (λ l. record {
      edge = refl;
      left = exchanged s.left (with_left s x y t).left (sym (left_up s x y l) ∙ h) (sym (left_up (with_left s x y t) x y l) ∙ with_left_here s x y t);
      right = inl (cond_true_back l);
    })
    (λ l. record {
      edge = refl;
      left = inl (cond_false_back l);
      right = exchanged s.right (with_left s x y t).right (sym (left_down s x y l) ∙ h) (sym (left_down (with_left s x y t) x y l) ∙ with_left_here s x y t);
    })
    (cases_lt x y)
  where
    exchanged : (o n : Option ℕ) → o ≡ Some r → n ≡ Some t → IsSameBut i j o n
    exchanged o n e f =
        inr (⊎_elim (λ k. inl (e ∙ ap Some k.0, f ∙ ap Some k.1)) (λ k. inr (e ∙ ap Some k.0, f ∙ ap Some k.1)) moved)

    cond_true_back : x < y → s.right ≡ (with_left s x y t).right
    cond_true_back l = sym (cond-true _ s.right (Some t) (lt-ltb x y l))

    cond_false_back : y ≤ x → s.left ≡ (with_left s x y t).left
    cond_false_back l = sym (cond-false _ (Some t) s.left (le-ltb x y l))

-- every other slot keeps its edge, and its triangles but for the two that were flipped
pub others-step : (s : Step) (p : ℕ) (old new : Slot) → p ≢ s.slot → IsAt s.slots p old → IsAt (new_slots s) p new → IsMoved s.i s.j old new
others-step s p old new ne at_old at_new =
    ⊎_elim
    (λ (e, same).
    let va = at_va s in
    let still = IsAt-set_other (with_diagonal s) s.ub s.va (with_left s.ub_slot s.u s.b s.i) va.slot (ub_va s) (IsAt-set_other s.slots s.slot s.va s.diagonal va.slot (va_slot_apart s) va.slot_at) in
    let is_va = IsAt-only (with_ub s) s.va va.slot s.va_slot still s.va_at in
    let is_old = IsAt-only s.slots s.va old va.slot (subst (λ n. IsAt s.slots n old) e at_old) va.slot_at in
    let left = subst (λ k. triangle_left k s.v s.a ≡ Some s.i) is_va va.left in
    subst (λ k. IsMoved s.i s.j k new) (sym (is_old ∙ is_va))
    (subst (λ k. IsMoved s.i s.j s.va_slot k) (sym same) (IsMoved-write s.i s.j s.v s.a s.i s.j s.va_slot left (inl (refl, refl)))))
    (λ (not_va, at1). ⊎_elim
    (λ (e, same).
    let ub = at_ub s in
    let still = IsAt-set_other s.slots s.slot s.ub s.diagonal ub.slot (ub_slot_apart s) ub.slot_at in
    let is_ub = IsAt-only (with_diagonal s) s.ub ub.slot s.ub_slot still s.ub_at in
    let is_old = IsAt-only s.slots s.ub old ub.slot (subst (λ n. IsAt s.slots n old) e at_old) ub.slot_at in
    let left = subst (λ k. triangle_left k s.u s.b ≡ Some s.j) is_ub ub.left in
    subst (λ k. IsMoved s.i s.j k new) (sym (is_old ∙ is_ub))
    (subst (λ k. IsMoved s.i s.j s.ub_slot k) (sym same) (IsMoved-write s.i s.j s.u s.b s.j s.i s.ub_slot left (inr (refl, refl)))))
    (λ (not_ub, at2). ⊎_elim
    (λ (e, same). absurd (ne e))
    (λ (not_slot, at3). IsMoved-same s.i s.j old new (IsAt-only s.slots p old new at_old at3))
    (IsAt-set s.slots s.slot p s.diagonal new at2))
    (IsAt-set (with_diagonal s) s.ub p (with_left s.ub_slot s.u s.b s.i) new at1))
    (IsAt-set (with_ub s) s.va p (with_left s.va_slot s.v s.a s.j) new at_new)

-- the corners stay among the points
pub within-step : (ps : List Point) (s : Step) → All (IsWithin ps) (face_tris s.faces) → All (IsWithin ps) (face_tris (new_faces s))
within-step ps s h =
    let f = IsFlip-step s in
    let n = length ps in
    let P : ℕ → ℕ → ℕ → Type 0 = λ x y z. (x < n) × (y < n) × (z < n) in
    let turned : (x y z : ℕ) → P x y z → P y z x = λ x y z (p, q, r). (q, r, p) in
    let l = subst (IsWithin ps) f.left_at (h f.i f.left f.i_in) in
    let r = subst (IsWithin ps) f.right_at (h f.j f.right f.j_in) in
    let left = to_corners P turned f.left s.u s.v s.a f.left_is (l.a_in, l.b_in, l.c_in) in
    let right = to_corners P turned f.right s.v s.u s.b f.right_is (r.a_in, r.b_in, r.c_in) in
    let top = from_corners P turned f.top s.u s.b s.a f.top_is (left.0, right.2, left.2) in
    let bottom = from_corners P turned f.bottom s.v s.a s.b f.bottom_is (left.1, left.2, right.2) in
    rw f.after
    (All-set (IsWithin ps) (set (face_tris s.faces) f.i f.top) f.j f.bottom (record { a_in = bottom.0; b_in = bottom.1; c_in = bottom.2 })
    (All-set (IsWithin ps) (face_tris s.faces) f.i f.top (record { a_in = top.0; b_in = top.1; c_in = top.2 }) h))

-- the squared length of a slot's edge, by its ends in either order
slot_d2-joins : (ps : List Point) (s : Slot) (x y : ℕ) → Joins s.edge x y → slot_d2 ps s ≡ d2 (point_at ps x) (point_at ps y)
slot_d2-joins ps s x y h =
    ⊎_elim
    (λ l.
    let a : s.edge.a ≡ x = omega (arith, h.0) in
    let b : s.edge.b ≡ y = omega (arith, h.1) in
    rw (a, b) refl)
    (λ l.
    let a : s.edge.a ≡ y = omega (arith, h.0) in
    let b : s.edge.b ≡ x = omega (arith, h.1) in
    rw (a, b) (d2_comm (point_at ps y) (point_at ps x)))
    (cases_lt x y)

-- the sum of the squared lengths falls where ab is shorter than uv
pub falls-step : (ps : List Point) (s : Step) → IsShortening ps s.u s.v s.a s.b → sum_by (slot_d2 ps) (new_slots s) < sum_by (slot_d2 ps) s.slots
falls-step ps s short =
    let f = slot_d2 ps in
    let uv = at_uv s in
    let one = sum_by-set f s.slots s.slot s.diagonal uv.slot uv.slot_at.inside in
    let two = sum_by-set f (with_diagonal s) s.ub (with_left s.ub_slot s.u s.b s.i) s.ub_slot s.ub_at.inside in
    let three = sum_by-set f (with_ub s) s.va (with_left s.va_slot s.v s.a s.j) s.va_slot s.va_at.inside in
    omega (
      arith,
      one,
      two,
      three,
      ap f uv.slot_at.is,
      ap f s.ub_at.is,
      ap f s.va_at.is,
      slot_d2-joins ps uv.slot s.u s.v uv.joins,
      slot_d2-joins ps s.diagonal s.a s.b (Joins-comm s.diagonal.edge s.b s.a s.diagonal_is.joins),
      short.shorter,
    )
