-- Slots that a flip leaves as they were.
use Rattle.std.proofs.Common.{◌≡◌, ◌≢◌, ◌⊎◌, ℕ, ◌<◌, ◌≤◌, List, length, set, Option, None, Some, sym, ap, ◌∙◌, refl, subst, inl, inr, ⊎_elim, arith}
use Rattle.std.proofs.lemmas.Bool.{cases_lt}
use Rattle.std.proofs.lemmas.List.{length-map, length-set}
use Rattle.std.proofs.lemmas.Option.{same_Some}
use mathlib.Core.Logic.{dite}
use native.Mathlib.Decide.{ℕ_discrete}
use Rattle.exact_predicates.specs.declared.edge.Edge.{Edge}
use Rattle.exact_predicates.specs.declared.point.Point.{Point}
use Rattle.exact_predicates.specs.declared.tri.Tri.{Tri}
use Rattle.flip_finish.specs.declared.slot.Slot.{Slot}
use Rattle.flip_finish.specs.Flipping.{IsFlipped, IsSameBut, Shortens}
use Rattle.flip_finish.specs.Mesh.{HasLeft, Parts, slot_edges}
use Rattle.flip_finish.specs.Places.{IsAt}
use Rattle.flip_finish.specs.Winners.{HasTriangle}
use Rattle.flip_finish.proofs.Slots.{left_down, left_up}
use Rattle.flip_finish.proofs.Standing.{IsAt-only, IsAt-set, IsAt-set_other, some_at}
use Rattle.flip_claims.proofs.Triangles.{has_left, has_right}
use Rattle.flip_claims.proofs.Winning.{pair_of_quad}

-- the slot and its triangles are as they were
pub record IsUntouched (old now : Parts) (p : ℕ) : Type 0 where
  pub slot : (s : Slot) → IsAt old.slots p s → IsAt now.slots p s
  pub tris : (t : ℕ) (tri : Tri) → HasTriangle old p t → IsAt old.tris t tri → IsAt now.tris t tri

-- so it shortens as it did
pub untouched_shortens : (ps : List Point) (old now : Parts) (p : ℕ) → IsUntouched old now p → Shortens ps old p → Shortens ps now p
untouched_shortens ps old now p h s =
    let q = s.quad in
    let pair = pair_of_quad old p s.u s.v s.a s.b q in
    record {
      u = s.u;
      v = s.v;
      a = s.a;
      b = s.b;
      quad = record {
        up = q.up;
        i = q.i;
        j = q.j;
        left = record { slot = q.left.slot; slot_at = h.slot q.left.slot q.left.slot_at; joins = q.left.joins; left = q.left.left };
        right = record { slot = q.right.slot; slot_at = h.slot q.right.slot q.right.slot_at; joins = q.right.joins; left = q.right.left };
        left_tri = q.left_tri;
        right_tri = q.right_tri;
        left_at = h.tris q.i q.left_tri (has_left old p q.i q.j pair) q.left_at;
        right_at = h.tris q.j q.right_tri (has_right old p q.i q.j pair) q.right_at;
        left_is = q.left_is;
        right_is = q.right_is;
      };
      shortening = s.shortening;
    }

-- its triangles are those that it had
pub had_triangle : (ps : List Point) (old now : Parts) (p t : ℕ) → IsUntouched old now p → Shortens ps old p → HasTriangle now p t → HasTriangle old p t
had_triangle ps old now p t h s k =
    let it = s.quad.left.slot in
    let same = IsAt-only now.slots p k.it it k.it_at (h.slot it s.quad.left.slot_at) in
    record { it = it; it_at = s.quad.left.slot_at; has = subst (λ (z : Slot). (z.left ≡ Some t) ⊎ (z.right ≡ Some t)) same k.has }

-- one side of a slot whose triangle is not one of the two
side_same : (i j : ℕ) (s t : Option ℕ) → ¬ (s ≡ Some i) → ¬ (s ≡ Some j) → IsSameBut i j s t → t ≡ s
side_same i j s t not_i not_j h = ⊎_elim (λ same. sym same) (λ other. ⊎_elim (λ k. absurd (not_i k.0)) (λ k. absurd (not_j k.0)) other) h

-- the same from the other side
side_back : (i j : ℕ) (s t : Option ℕ) → ¬ (t ≡ Some i) → ¬ (t ≡ Some j) → IsSameBut i j s t → t ≡ s
side_back i j s t not_i not_j h = ⊎_elim (λ same. sym same) (λ other. ⊎_elim (λ k. absurd (not_j k.1)) (λ k. absurd (not_i k.1)) other) h

-- a triangle on one side of a slot's edge
has_side : (m : Parts) (p x y t : ℕ) → HasLeft m.slots p x y t → HasTriangle m p t
has_side m p x y t h =
    ⊎_elim
    (λ (up : x < y). record { it = h.slot; it_at = h.slot_at; has = inl (sym (left_up h.slot x y up) ∙ h.left) })
    (λ (down : y ≤ x). record { it = h.slot; it_at = h.slot_at; has = inr (sym (left_down h.slot x y down) ∙ h.left) })
    (cases_lt x y)

pub slot_same : (s t : Slot) → t.edge ≡ s.edge → t.left ≡ s.left → t.right ≡ s.right → t ≡ s
slot_same s t e l r =
    ap (λ (x : Edge). let z : Slot = record { edge = x; left = t.left; right = t.right } in z) e
    ∙ (ap (λ (x : Option ℕ). let z : Slot = record { edge = s.edge; left = x; right = t.right } in z) l
    ∙ ap (λ (x : Option ℕ). let z : Slot = record { edge = s.edge; left = s.left; right = x } in z) r)

-- a flip keeps the number of slots
pub flip_slots : (ps : List Point) (mid new : Parts) (slot : ℕ) → IsFlipped ps mid new slot → length new.slots ≡ length mid.slots
flip_slots ps mid new slot f =
    sym (length-map new.slots (λ z. z.edge)) ∙ (ap length f.edges ∙ (length-set (slot_edges mid.slots) slot f.edge ∙ length-map mid.slots (λ z. z.edge)))

-- a slot without a triangle in common with the one that is flipped is left as it was
pub untouched_flip : (ps : List Point) (old mid new : Parts) (w p : ℕ) → IsFlipped ps mid new w → Shortens ps old w → IsUntouched old mid w → IsUntouched old mid p
    → p ≢ w → ((t : ℕ) → HasTriangle old p t → ¬ HasTriangle old w t) → IsUntouched old new p
untouched_flip ps old mid new w p f w_short w_same p_same ne apart =
    let q = f.quad in
    let pair = pair_of_quad mid w f.u f.v f.a f.b q in
    let w_i = had_triangle ps old mid w q.i w_same w_short (has_left mid w q.i q.j pair) in
    let w_j = had_triangle ps old mid w q.j w_same w_short (has_right mid w q.i q.j pair) in
    let not_i : (s : Slot) → IsAt old.slots p s → (o : Option ℕ) → (o ≡ s.left) ⊎ (o ≡ s.right) → ¬ (o ≡ Some q.i) = λ s at_p o side is.
    apart q.i (record { it = s; it_at = at_p; has = ⊎_elim (λ l. inl (sym l ∙ is)) (λ r. inr (sym r ∙ is)) side }) w_i in
    let not_j : (s : Slot) → IsAt old.slots p s → (o : Option ℕ) → (o ≡ s.left) ⊎ (o ≡ s.right) → ¬ (o ≡ Some q.j) = λ s at_p o side is.
    apart q.j (record { it = s; it_at = at_p; has = ⊎_elim (λ l. inl (sym l ∙ is)) (λ r. inr (sym r ∙ is)) side }) w_j in
    record {
      slot = λ s at_p.
          let at_mid = p_same.slot s at_p in
          let many = flip_slots ps mid new w f in
          let inside = at_mid.inside in
          let (t, at_new) = some_at new.slots p (omega arith) in
          let k = f.others p s t ne at_mid at_new in
          let same = slot_same s t k.0
          (side_same q.i q.j s.left t.left (not_i s at_p s.left (inl refl)) (not_j s at_p s.left (inl refl)) k.1)
          (side_same q.i q.j s.right t.right (not_i s at_p s.right (inr refl)) (not_j s at_p s.right (inr refl)) k.2) in
          subst (IsAt new.slots p) same at_new;
      tris = λ t tri has at_t.
          let at_mid = p_same.tris t tri has at_t in
          let away_i : t ≢ f.tris.i = λ is. apart q.i (subst (HasTriangle old p) (is ∙ f.i_same) has) w_i in
          let away_j : t ≢ f.tris.j = λ is. apart q.j (subst (HasTriangle old p) (is ∙ f.j_same) has) w_j in
          subst (λ (l : List Tri). IsAt l t tri) (sym f.tris.after)
          (IsAt-set_other (set mid.tris f.tris.i f.tris.top) f.tris.j t f.tris.bottom tri away_j (IsAt-set_other mid.tris f.tris.i t f.tris.top tri away_i at_mid));
    }

-- a slot and its triangles that stay, and stay again
pub untouched_on : (old mid new : Parts) (p : ℕ) → IsUntouched old mid p → IsUntouched mid new p → IsUntouched old new p
untouched_on old mid new p h k = record {
  slot = λ s at_p. k.slot s (h.slot s at_p);
  tris = λ t tri has at_t. k.tris t tri (record { it = has.it; it_at = h.slot has.it has.it_at; has = has.has }) (h.tris t tri has at_t);
}

-- whether the slot has the triangle
pub has_or_not : (m : Parts) (p t : ℕ) (s : Slot) → IsAt m.slots p s → HasTriangle m p t ⊎ (¬ HasTriangle m p t)
has_or_not m p t s at_p = by s.left refl s.right refl
  where
    is_none : (o : Option ℕ) → (o ≡ Some t) ⊎ (¬ (o ≡ Some t))
    is_none None = inr (λ e. absurd (cc e))
    is_none (Some i) = dite (ℕ_discrete i t) (λ (e : i ≡ t). inl (ap Some e)) (λ ne. inr (λ e. ne (same_Some i t e)))

    by : (l : Option ℕ) → s.left ≡ l → (r : Option ℕ) → s.right ≡ r → HasTriangle m p t ⊎ (¬ HasTriangle m p t)
    by l l_is r r_is =
        ⊎_elim
        (λ yes_left. inl (record { it = s; it_at = at_p; has = inl (l_is ∙ yes_left) }))
        (λ not_left. ⊎_elim
        (λ yes_right. inl (record { it = s; it_at = at_p; has = inr (r_is ∙ yes_right) }))
        (λ not_right. inr (λ h.
        let same = IsAt-only m.slots p h.it s h.it_at at_p in
        ⊎_elim
        (λ left. not_left (sym l_is ∙ (ap (λ (z : Slot). z.left) (sym same) ∙ left)))
        (λ right. not_right (sym r_is ∙ (ap (λ (z : Slot). z.right) (sym same) ∙ right)))
        h.has))
        (is_none r))
        (is_none l)

-- a slot that has neither of the two flipped triangles was as it is
pub untouched_back : (ps : List Point) (mid new : Parts) (w p : ℕ) (f : IsFlipped ps mid new w) → ¬ HasTriangle new p f.quad.i → ¬ HasTriangle new p f.quad.j → IsUntouched new mid p
untouched_back ps mid new w p f not_i not_j =
    let q = f.quad in
    let away_i : (s : Slot) → IsAt new.slots p s → (o : Option ℕ) → (o ≡ s.left) ⊎ (o ≡ s.right) → ¬ (o ≡ Some q.i) = λ s at_p o side is.
    not_i (record { it = s; it_at = at_p; has = ⊎_elim (λ l. inl (sym l ∙ is)) (λ r. inr (sym r ∙ is)) side }) in
    let away_j : (s : Slot) → IsAt new.slots p s → (o : Option ℕ) → (o ≡ s.left) ⊎ (o ≡ s.right) → ¬ (o ≡ Some q.j) = λ s at_p o side is.
    not_j (record { it = s; it_at = at_p; has = ⊎_elim (λ l. inl (sym l ∙ is)) (λ r. inr (sym r ∙ is)) side }) in
    let ne : p ≢ w = λ same. not_i (subst (λ (i : ℕ). HasTriangle new i q.i) (sym same) (has_side new w f.b f.a q.i f.top)) in
    record {
      slot = λ t at_new.
          let many = flip_slots ps mid new w f in
          let inside = at_new.inside in
          let (s, at_mid) = some_at mid.slots p (omega arith) in
          let k = f.others p s t ne at_mid at_new in
          let same = slot_same s t k.0
          (side_back q.i q.j s.left t.left (away_i t at_new t.left (inl refl)) (away_j t at_new t.left (inl refl)) k.1)
          (side_back q.i q.j s.right t.right (away_i t at_new t.right (inr refl)) (away_j t at_new t.right (inr refl)) k.2) in
          subst (IsAt mid.slots p) (sym same) at_mid;
      tris = λ t tri has at_t.
          let other_i : t ≢ f.tris.i = λ is. not_i (subst (HasTriangle new p) (is ∙ f.i_same) has) in
          let other_j : t ≢ f.tris.j = λ is. not_j (subst (HasTriangle new p) (is ∙ f.j_same) has) in
          let after = subst (λ (l : List Tri). IsAt l t tri) f.tris.after at_t in
          ⊎_elim
          (λ (e : (t ≡ f.tris.j) × (tri ≡ f.tris.bottom)). absurd (other_j e.0))
          (λ (e : (t ≢ f.tris.j) × IsAt (set mid.tris f.tris.i f.tris.top) t tri). ⊎_elim
          (λ (d : (t ≡ f.tris.i) × (tri ≡ f.tris.top)). absurd (other_i d.0))
          (λ (d : (t ≢ f.tris.i) × IsAt mid.tris t tri). d.1)
          (IsAt-set mid.tris f.tris.i t f.tris.top tri e.1))
          (IsAt-set (set mid.tris f.tris.i f.tris.top) f.tris.j t f.tris.bottom tri after);
    }
