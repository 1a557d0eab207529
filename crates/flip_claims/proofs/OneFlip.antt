-- A flip of a mesh makes one whole mesh.
use Rattle.std.proofs.Common.{◌≡◌, ◌≢◌, ◌⊎◌, ℕ, ◌<◌, ◌≤◌, suc, List, [], ◌∷◌, length, set, Option, Some, sym, ap, ◌∙◌, refl, subst, inl, inr, ⊎_elim, arith}
use Rattle.std.proofs.lemmas.Bool.{cases_lt}
use Rattle.std.proofs.lemmas.List.{length-set}
use mathlib.Core.Logic.{dite}
use native.Mathlib.Decide.{ℕ_discrete}
use Rattle.exact_predicates.specs.declared.edge.Edge.{Edge}
use Rattle.exact_predicates.specs.declared.point.Point.{Point}
use Rattle.exact_predicates.specs.declared.tri.Tri.{Tri}
use Rattle.exact_predicates.specs.Candidates.{Joins}
use Rattle.exact_predicates.specs.Triangulation.{HasCorners}
use Rattle.exact_predicates.proofs.Corners.{corners_differ, to_corners, turned_corners}
use Rattle.exact_predicates.proofs.Equalities.{Joins-only, Tri-equal}
use Rattle.flip_finish.specs.declared.slot.Slot.{Slot}
use Rattle.flip_finish.specs.Flipping.{IsFlipped, IsSameBut}
use Rattle.flip_finish.specs.Mesh.{HasLeft, IsWhole, Parts, triangle_left}
use Rattle.flip_finish.specs.Places.{IsAt}
use Rattle.flip_finish.proofs.Quads.{quad_only}
use Rattle.flip_finish.proofs.Seeing.{HasLeft-down, HasLeft-up}
use Rattle.flip_finish.proofs.Slots.{HasLeft-apart, left_down, left_up}
use Rattle.flip_finish.proofs.Standing.{IsAt-only, IsAt-set_here, IsAt-set_other, some_at}
use Rattle.flip_claims.proofs.Untouched.{flip_slots, slot_same}

-- lists with the same at each place are one
ext_at : {X : Type 0} (xs ys : List X) → length xs ≡ length ys → ((k : ℕ) (x y : X) → IsAt xs k x → IsAt ys k y → x ≡ y) → xs ≡ ys
ext_at [] [] size same = refl
ext_at [] (y ∷ ys) size same = absurd (omega arith)
ext_at (x ∷ xs) [] size same = absurd (omega arith)
ext_at {X} (x ∷ xs) (y ∷ ys) size same =
    ap (λ (z : X). z ∷ xs) (same 0 x y (record { inside = omega arith; is = refl }) (record { inside = omega arith; is = refl }))
    ∙ ap (λ (l : List X). y ∷ l) (ext_at xs ys (omega arith) (λ k a b a_at b_at. let a_in = a_at.inside in let b_in = b_at.inside in
    same (suc k) a b (record { inside = omega arith; is = a_at.is }) (record { inside = omega arith; is = b_at.is })))

-- a triangle is known by its corners in their turn
pub tri_only : (s t : Tri) (u v w : ℕ) → HasCorners s u v w → HasCorners t u v w → s ≡ t
tri_only s t u v w h k =
    let ab = s.below_b in
    let ac = s.below_c in
    let de = t.below_b in
    let df = t.below_c in
    Tri-equal s t (omega (arith, h, k)) (omega (arith, h, k)) (omega (arith, h, k))

-- x to y is one of the three sides u to v, v to w and w to u
abbrev IsSideOf : ℕ → ℕ → ℕ → ℕ → ℕ → Type 0
IsSideOf x y u v w = ((x ≡ u) × (y ≡ v)) ⊎ (((x ≡ v) × (y ≡ w)) ⊎ ((x ≡ w) × (y ≡ u)))

side_among : (t : Tri) (u v w x y z : ℕ) → HasCorners t u v w → HasCorners t x y z → IsSideOf x y u v w
side_among t u v w x y z h k =
    to_corners (IsSideOf x y) (λ a b c s. ⊎_elim (λ e. inr (inr e)) (λ m. ⊎_elim (λ e. inl e) (λ e. inr (inl e)) m) s) t u v w h
    (⊎_elim (λ c. inl (sym c.0, sym c.1)) (λ m. ⊎_elim (λ c. inr (inl (sym c.0, sym c.1))) (λ c. inr (inr (sym c.0, sym c.1))) m) k)

-- the two triangles on ab have no directed side in common
sides_apart : (top bottom : Tri) (u v a b x y w z : ℕ) → u < v → HasCorners top u b a → HasCorners bottom v a b → HasCorners top x y w → HasCorners bottom x y z → ⊥
sides_apart top bottom u v a b x y w z up top_is bottom_is h k =
    let ub = corners_differ top u b a top_is in
    let ba = corners_differ top b a u (turned_corners top u b a top_is) in
    let au = corners_differ top a u b (turned_corners top b a u (turned_corners top u b a top_is)) in
    let va = corners_differ bottom v a b bottom_is in
    let bv = corners_differ bottom b v a (turned_corners bottom a b v (turned_corners bottom v a b bottom_is)) in
    omega (arith, side_among top u b a x y w top_is h, side_among bottom v a b x y z bottom_is k)

-- a side of a slot after the flip, where it cannot be once the one and once the other of two triangles
same_side : (i j : ℕ) (s o p : Option ℕ) → IsSameBut i j s o → IsSameBut i j s p → (o ≡ Some i → p ≡ Some j → ⊥) → (o ≡ Some j → p ≡ Some i → ⊥) → o ≡ p
same_side i j s o p h k not_ij not_ji =
    ⊎_elim
    (λ (stays : s ≡ o). ⊎_elim
    (λ (too : s ≡ p). sym stays ∙ too)
    (λ m. ⊎_elim (λ e. absurd (not_ij (sym stays ∙ e.0) e.1)) (λ e. absurd (not_ji (sym stays ∙ e.0) e.1)) m)
    k)
    (λ m. ⊎_elim
    (λ e. ⊎_elim
    (λ (too : s ≡ p). absurd (not_ji e.1 (sym too ∙ e.0)))
    (λ n. ⊎_elim (λ f. e.1 ∙ sym f.1) (λ f. absurd (not_ji e.1 f.1)) n)
    k)
    (λ e. ⊎_elim
    (λ (too : s ≡ p). absurd (not_ij e.1 (sym too ∙ e.0)))
    (λ n. ⊎_elim (λ f. absurd (not_ij e.1 f.1)) (λ f. e.1 ∙ sym f.1) n)
    k)
    m)
    h

-- what a slot has on its two sides
slot_by_sides : (s t : Slot) (x y : ℕ) (i j : Option ℕ) → x ≢ y → s.edge ≡ t.edge → triangle_left s x y ≡ i → triangle_left t x y ≡ i
    → triangle_left s y x ≡ j → triangle_left t y x ≡ j → s ≡ t
slot_by_sides s t x y i j ne edge sx tx sy ty =
    ⊎_elim
    (λ (up : x < y). slot_same t s edge
    (sym (left_up s x y up) ∙ (sx ∙ (sym tx ∙ left_up t x y up)))
    (sym (left_down s y x (omega arith)) ∙ (sy ∙ (sym ty ∙ left_down t y x (omega arith)))))
    (λ (down : y ≤ x). slot_same t s edge
    (sym (left_up s y x (omega arith)) ∙ (sy ∙ (sym ty ∙ left_up t y x (omega arith))))
    (sym (left_down s x y down) ∙ (sx ∙ (sym tx ∙ left_down t x y down))))
    (cases_lt x y)

module _ (ps : List Point) (mid new other : Parts) (slot : ℕ) (f : IsFlipped ps mid new slot) (g : IsFlipped ps mid other slot) where
  -- both flips are of one quadrilateral
  ends : (f.u ≡ g.u) × (f.v ≡ g.v) × (f.a ≡ g.a) × (f.b ≡ g.b) × (f.quad.i ≡ g.quad.i) × (f.quad.j ≡ g.quad.j)
  ends = quad_only mid slot f.u f.v f.a f.b g.u g.v g.a g.b f.quad g.quad

  -- so they make the same two triangles
  top_same : g.tris.top ≡ f.tris.top
  top_same =
      tri_only g.tris.top f.tris.top f.u f.b f.a
      (subst (λ (n : ℕ). HasCorners g.tris.top n f.b f.a) (sym ends.0)
      (subst (λ (n : ℕ). HasCorners g.tris.top g.u n f.a) (sym ends.3) (subst (λ (n : ℕ). HasCorners g.tris.top g.u g.b n) (sym ends.2) g.tris.top_is)))
      f.tris.top_is

  bottom_same : g.tris.bottom ≡ f.tris.bottom
  bottom_same =
      tri_only g.tris.bottom f.tris.bottom f.v f.a f.b
      (subst (λ (n : ℕ). HasCorners g.tris.bottom n f.a f.b) (sym ends.1)
      (subst (λ (n : ℕ). HasCorners g.tris.bottom g.v n f.b) (sym ends.2) (subst (λ (n : ℕ). HasCorners g.tris.bottom g.v g.a n) (sym ends.3) g.tris.bottom_is)))
      f.tris.bottom_is

  i_same : g.tris.i ≡ f.tris.i
  i_same = g.i_same ∙ (sym ends.4 ∙ sym f.i_same)

  j_same : g.tris.j ≡ f.tris.j
  j_same = g.j_same ∙ (sym ends.5 ∙ sym f.j_same)

  tris_same : other.tris ≡ new.tris
  tris_same =
      g.tris.after
      ∙ (ap (λ (n : ℕ). set (set mid.tris n g.tris.top) g.tris.j g.tris.bottom) i_same
      ∙ (ap (λ (t : Tri). set (set mid.tris f.tris.i t) g.tris.j g.tris.bottom) top_same
      ∙ (ap (λ (n : ℕ). set (set mid.tris f.tris.i f.tris.top) n g.tris.bottom) j_same
      ∙ (ap (λ (t : Tri). set (set mid.tris f.tris.i f.tris.top) f.tris.j t) bottom_same ∙ sym f.tris.after))))

  -- where they stand
  top_at : (t : Tri) → IsAt new.tris f.quad.i t → t ≡ f.tris.top
  top_at t h =
      let inside : f.tris.i < length mid.tris = f.tris.i_in in
      let first = IsAt-set_other (set mid.tris f.tris.i f.tris.top) f.tris.j f.tris.i f.tris.bottom f.tris.top f.tris.i_j (IsAt-set_here mid.tris f.tris.i f.tris.top inside) in
      IsAt-only new.tris f.quad.i t f.tris.top h (subst (λ (n : ℕ). IsAt new.tris n f.tris.top) f.i_same (subst (λ (l : List Tri). IsAt l f.tris.i f.tris.top) (sym f.tris.after) first))

  bottom_at : (t : Tri) → IsAt new.tris f.quad.j t → t ≡ f.tris.bottom
  bottom_at t h =
      let in_old = f.tris.j_in in
      let here = IsAt-set_here (set mid.tris f.tris.i f.tris.top) f.tris.j f.tris.bottom (omega (arith, length-set mid.tris f.tris.i f.tris.top)) in
      IsAt-only new.tris f.quad.j t f.tris.bottom h (subst (λ (n : ℕ). IsAt new.tris n f.tris.bottom) f.j_same (subst (λ (l : List Tri). IsAt l f.tris.j f.tris.bottom) (sym f.tris.after) here))

  -- so no side is once on the one and once on the other
  not_both : (m n : Parts) → IsWhole m → IsWhole n → m.tris ≡ new.tris → n.tris ≡ new.tris → (p q x y : ℕ) → HasLeft m.slots p x y f.quad.i → HasLeft n.slots q x y f.quad.j → ⊥
  not_both m n whole too m_tris n_tris p q x y h k =
      let (t, w, at_i, t_is) = whole.of_slot p x y f.quad.i h in
      let (s, z, at_j, s_is) = too.of_slot q x y f.quad.j k in
      let top = top_at t (subst (λ (l : List Tri). IsAt l f.quad.i t) m_tris at_i) in
      let bottom = bottom_at s (subst (λ (l : List Tri). IsAt l f.quad.j s) n_tris at_j) in
      sides_apart f.tris.top f.tris.bottom f.u f.v f.a f.b x y w z f.quad.up f.tris.top_is f.tris.bottom_is
      (subst (λ (r : Tri). HasCorners r x y w) top t_is) (subst (λ (r : Tri). HasCorners r x y z) bottom s_is)

  module _ (new_whole : IsWhole new) (other_whole : IsWhole other) where
    -- a slot that is not flipped
    same_other : (p : ℕ) (r s t : Slot) → p ≢ slot → IsAt mid.slots p r → IsAt new.slots p s → IsAt other.slots p t → s ≡ t
    same_other p r s t ne at_mid at_new at_other =
        let h = f.others p r s ne at_mid at_new in
        let k = g.others p r t ne at_mid at_other in
        let left : IsSameBut f.quad.i f.quad.j r.left t.left = subst (λ (n : ℕ). IsSameBut n f.quad.j r.left t.left) (sym ends.4) (subst (λ (n : ℕ). IsSameBut g.quad.i n r.left t.left) (sym ends.5) k.1) in
        let right : IsSameBut f.quad.i f.quad.j r.right t.right = subst (λ (n : ℕ). IsSameBut n f.quad.j r.right t.right) (sym ends.4) (subst (λ (n : ℕ). IsSameBut g.quad.i n r.right t.right) (sym ends.5) k.2) in
        let edge : s.edge ≡ t.edge = h.0 ∙ sym k.0 in
        let up : (n : ℕ) → t.left ≡ Some n → HasLeft other.slots p s.edge.a s.edge.b n = λ n is.
        subst (λ (e : Edge). HasLeft other.slots p e.a e.b n) (sym edge) (HasLeft-up other.slots p n t at_other is) in
        let down : (n : ℕ) → t.right ≡ Some n → HasLeft other.slots p s.edge.b s.edge.a n = λ n is.
        subst (λ (e : Edge). HasLeft other.slots p e.b e.a n) (sym edge) (HasLeft-down other.slots p n t at_other is) in
        slot_same t s edge
        (same_side f.quad.i f.quad.j r.left s.left t.left h.1 left
        (λ is too. not_both new other new_whole other_whole refl tris_same p p s.edge.a s.edge.b (HasLeft-up new.slots p f.quad.i s at_new is) (up f.quad.j too))
        (λ is too. not_both other new other_whole new_whole tris_same refl p p s.edge.a s.edge.b (up f.quad.i too) (HasLeft-up new.slots p f.quad.j s at_new is)))
        (same_side f.quad.i f.quad.j r.right s.right t.right h.2 right
        (λ is too. not_both new other new_whole other_whole refl tris_same p p s.edge.b s.edge.a (HasLeft-down new.slots p f.quad.i s at_new is) (down f.quad.j too))
        (λ is too. not_both other new other_whole new_whole tris_same refl p p s.edge.b s.edge.a (down f.quad.i too) (HasLeft-down new.slots p f.quad.j s at_new is)))

    -- and the one that is
    same_flipped : (s t : Slot) → IsAt new.slots slot s → IsAt other.slots slot t → s ≡ t
    same_flipped s t at_new at_other =
        let top : HasLeft other.slots slot f.b f.a f.quad.i =
        subst (λ (n : ℕ). HasLeft other.slots slot n f.a f.quad.i) (sym ends.3) (subst (λ (n : ℕ). HasLeft other.slots slot g.b n f.quad.i) (sym ends.2) (subst (HasLeft other.slots slot g.b g.a) (sym ends.4) g.top)) in
        let bottom : HasLeft other.slots slot f.a f.b f.quad.j =
        subst (λ (n : ℕ). HasLeft other.slots slot n f.b f.quad.j) (sym ends.2) (subst (λ (n : ℕ). HasLeft other.slots slot g.a n f.quad.j) (sym ends.3) (subst (HasLeft other.slots slot g.a g.b) (sym ends.5) g.bottom)) in
        let s_top = IsAt-only new.slots slot f.top.slot s f.top.slot_at at_new in
        let s_bottom = IsAt-only new.slots slot f.bottom.slot s f.bottom.slot_at at_new in
        let t_top = IsAt-only other.slots slot top.slot t top.slot_at at_other in
        let t_bottom = IsAt-only other.slots slot bottom.slot t bottom.slot_at at_other in
        slot_by_sides s t f.b f.a (Some f.quad.i) (Some f.quad.j) (HasLeft-apart new.slots slot f.b f.a f.quad.i f.top)
        (Joins-only s.edge t.edge f.b f.a (subst (λ (r : Slot). Joins r.edge f.b f.a) s_top f.top.joins) (subst (λ (r : Slot). Joins r.edge f.b f.a) t_top top.joins))
        (subst (λ (r : Slot). triangle_left r f.b f.a ≡ Some f.quad.i) s_top f.top.left)
        (subst (λ (r : Slot). triangle_left r f.b f.a ≡ Some f.quad.i) t_top top.left)
        (subst (λ (r : Slot). triangle_left r f.a f.b ≡ Some f.quad.j) s_bottom f.bottom.left)
        (subst (λ (r : Slot). triangle_left r f.a f.b ≡ Some f.quad.j) t_bottom bottom.left)

    slots_same : new.slots ≡ other.slots
    slots_same =
        let many = flip_slots ps mid new slot f in
        let as_many = flip_slots ps mid other slot g in
        ext_at new.slots other.slots (many ∙ sym as_many)
        (λ p s t at_new at_other.
        let inside = at_new.inside in
        let (r, at_mid) = some_at mid.slots p (omega arith) in
        dite (ℕ_discrete p slot)
        (λ (e : p ≡ slot). same_flipped s t (subst (λ (n : ℕ). IsAt new.slots n s) e at_new) (subst (λ (n : ℕ). IsAt other.slots n t) e at_other))
        (λ ne. same_other p r s t ne at_mid at_new at_other))

    pub one_flip : new ≡ other
    one_flip =
        ap (λ (l : List Tri). let z : Parts = record { tris = l; slots = new.slots } in z) (sym tris_same)
        ∙ ap (λ (l : List Slot). let z : Parts = record { tris = other.tris; slots = l } in z) slots_same
