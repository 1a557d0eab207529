-- Which slots have two triangles, and which have a triangle.
use Rattle.std.proofs.Common.{◌≡◌, ℕ, zero, suc, ◌⊎◌, ◌↔◌, ◌<◌, ◌≤◌, List, [], ◌∷◌, length, get_or, Contains, Some, None, arith, refl, sym, ◌∙◌, subst, ⊎_elim, inl, inr}
use Rattle.std.proofs.lemmas.Bool.{cases_lt}
use Rattle.std.proofs.lemmas.List.{length-map}
use Rattle.exact_predicates.specs.declared.point.Point.{Point}
use Rattle.exact_predicates.specs.Hull.{IsHullPair}
use Rattle.exact_predicates.proofs.Pairs.{side_of_member}
use Rattle.flip_finish.specs.declared.face.Face.{Face}
use Rattle.flip_finish.specs.declared.slot.Slot.{Slot}
use Rattle.flip_finish.specs.Face.{Fits, HasSideAt, IsSideAt}
use Rattle.flip_finish.specs.Mesh.{HasLeft, IsMeshOf}
use Rattle.flip_finish.specs.Places.{IsAt}
use Rattle.flip_finish.specs.Winners.{HasTriangle, IsOnHull}
use Rattle.flip_finish.proofs.Quads.{parts}
use Rattle.flip_finish.proofs.Seeing.{HasLeft-down, HasLeft-up, face_in}
use Rattle.flip_finish.proofs.Slots.{left_down, left_up}
use Rattle.flip_finish.proofs.Standing.{IsAt-only}
use Rattle.flip_finish.proofs.Wholes.{IsWhole-fits}

module _ (faces : List Face) (slots : List Slot) (slot : ℕ) (it : Slot) (fits : Fits faces slots) (here : IsAt slots slot it) where
  -- a slot that lacks a triangle is on the hull
  pub on_hull_left : (ps : List Point) (hull : List ℕ) → IsMeshOf ps hull (parts faces slots) → it.left ≡ None → IsOnHull hull (parts faces slots) slot
  on_hull_left ps hull mesh none = record { it = it; it_at = here; pair = inr (mesh.outer_left slot it here none) }

  pub on_hull_right : (ps : List Point) (hull : List ℕ) → IsMeshOf ps hull (parts faces slots) → it.right ≡ None → IsOnHull hull (parts faces slots) slot
  on_hull_right ps hull mesh none = record { it = it; it_at = here; pair = inl (mesh.outer_right slot it here none) }

  -- no triangle is outside of a pair of the hull
  none_outside : (ps : List Point) (hull : List ℕ) (x y t : ℕ) → IsMeshOf ps hull (parts faces slots) → HasLeft slots slot x y t → ¬ IsHullPair hull y x
  none_outside ps hull x y t mesh h pair =
      let (tri, w, at_t, corners) = (IsWhole-fits faces slots fits).of_slot slot x y t h in
      omega (arith, side_of_member _ t tri x y w at_t.inside at_t.is corners, mesh.tris.none_outside y x pair)

  -- so a slot with two triangles is not on the hull
  pub off_hull : (ps : List Point) (hull : List ℕ) (t u : ℕ) → IsMeshOf ps hull (parts faces slots) → it.left ≡ Some t → it.right ≡ Some u → ¬ IsOnHull hull (parts faces slots) slot
  off_hull ps hull t u mesh left right on =
      let same = IsAt-only slots slot on.it it on.it_at here in
      ⊎_elim
      (none_outside ps hull it.edge.b it.edge.a u mesh (HasLeft-down slots slot u it here right))
      (none_outside ps hull it.edge.a it.edge.b t mesh (HasLeft-up slots slot t it here left))
      (subst (λ (s : Slot). IsHullPair hull s.edge.a s.edge.b ⊎ IsHullPair hull s.edge.b s.edge.a) same on.pair)

  -- the triangles are there
  pub left_in : (t : ℕ) → it.left ≡ Some t → t < length (parts faces slots).tris
  left_in t left = omega (arith, length-map faces (λ f. f.tri), face_in faces slots slot it.edge.a it.edge.b t fits (HasLeft-up slots slot t it here left))

  pub right_in : (u : ℕ) → it.right ≡ Some u → u < length (parts faces slots).tris
  right_in u right = omega (arith, length-map faces (λ f. f.tri), face_in faces slots slot it.edge.b it.edge.a u fits (HasLeft-down slots slot u it here right))

-- a triangle on a side of a slot's edge
has_from_left : (faces : List Face) (slots : List Slot) (p x y t : ℕ) → HasLeft slots p x y t → HasTriangle (parts faces slots) p t
has_from_left faces slots p x y t h =
    ⊎_elim
    (λ (up : x < y). record { it = h.slot; it_at = h.slot_at; has = inl (sym (left_up h.slot x y up) ∙ h.left) })
    (λ (down : y ≤ x). record { it = h.slot; it_at = h.slot_at; has = inr (sym (left_down h.slot x y down) ∙ h.left) })
    (cases_lt x y)

-- the slots that a face has for its sides are those that have it
pub sided : (faces : List Face) (slots : List Slot) (t p : ℕ) (f : Face) → Fits faces slots → IsAt faces t f
    → Contains (f.ab ∷ f.bc ∷ f.ca ∷ []) p ↔ HasTriangle (parts faces slots) p t
sided faces slots t p f fits at_t = (
  (λ (k, k_in, at_k). from k k_in at_k),
  λ h. ⊎_elim
      (λ left. side_in (fits.to_face p h.it.edge.a h.it.edge.b t (HasLeft-up slots p t h.it h.it_at left)))
      (λ right. side_in (fits.to_face p h.it.edge.b h.it.edge.a t (HasLeft-down slots p t h.it h.it_at right)))
      h.has,
)
  where
    side_of : (x y w q : ℕ) → HasSideAt f x y w q → q ≡ p → HasTriangle (parts faces slots) p t
    side_of x y w q side is = subst (λ (i : ℕ). HasTriangle (parts faces slots) i t) is (has_from_left faces slots q x y t (fits.to_slot q x y t (record { face = f; w = w; face_at = at_t; side = side })))

    from : (k : ℕ) → k < 3 → get_or (f.ab ∷ f.bc ∷ f.ca ∷ []) k p ≡ p → HasTriangle (parts faces slots) p t
    from zero l is = side_of f.tri.a f.tri.b f.tri.c f.ab (inl (refl, refl, refl, refl)) is
    from (suc zero) l is = side_of f.tri.b f.tri.c f.tri.a f.bc (inr (inl (refl, refl, refl, refl))) is
    from (suc (suc zero)) l is = side_of f.tri.c f.tri.a f.tri.b f.ca (inr (inr (refl, refl, refl, refl))) is
    from (suc (suc (suc k))) l is = absurd (omega arith)

    side_in : {x y : ℕ} → IsSideAt faces t x y p → Contains (f.ab ∷ f.bc ∷ f.ca ∷ []) p
    side_in {x} {y} h =
        let same = IsAt-only faces t h.face f h.face_at at_t in
        let side = subst (λ (g : Face). HasSideAt g x y h.w p) same h.side in
        ⊎_elim
        (λ k. (0, omega arith, k.3))
        (λ d. ⊎_elim (λ k. (1, omega arith, k.3)) (λ k. (2, omega arith, k.3)) d)
        side
