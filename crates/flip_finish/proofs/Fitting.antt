-- After a flip faces and slots still say the same.
use Rattle.std.proofs.Common.{◌≡◌, ◌≢◌, ℕ, List, set, arith, sym, refl, subst, ⊎_elim}
use Rattle.std.proofs.lemmas.Bool.{cases_eq}
use Rattle.std.proofs.lemmas.List.{length-set}
use Rattle.flip_finish.specs.declared.face.Face.{Face}
use Rattle.flip_finish.specs.declared.slot.Slot.{Slot}
use Rattle.flip_finish.specs.Face.{Fits, HasSideAt, IsSideAt}
use Rattle.flip_finish.specs.Mesh.{HasLeft}
use Rattle.flip_finish.specs.Places.{IsAt}
use Rattle.flip_finish.specs.Slot.{with_left}
use Rattle.flip_finish.proofs.Faces.{HasSides-only, first_side, second_side, third_side}
use Rattle.flip_finish.proofs.FlipSteps.{Step, new_faces, new_slots, with_diagonal, with_ub, at_uv, at_vu, at_va, at_ub, i_j, new_ab, new_au, new_ba, new_bv, new_ub, new_va, stays_left, ub_joins, va_joins}
use Rattle.flip_finish.proofs.Slots.{HasLeft-ends, HasLeft-only, HasLeft-replace, HasLeft-write, IsThere}
use Rattle.flip_finish.proofs.Standing.{IsAt-only, IsAt-set, IsAt-set_here, IsAt-set_other}

-- the same side, by other names of its numbers
pub renamed : (faces : List Face) (t x y p r u v q : ℕ) → t ≡ r → x ≡ u → y ≡ v → p ≡ q → IsSideAt faces r u v q → IsSideAt faces t x y p
renamed faces t x y p r u v q e f g h k =
    subst (λ n. IsSideAt faces n x y p) (sym e) (subst (λ n. IsSideAt faces r n y p) (sym f)
    (subst (λ n. IsSideAt faces r u n p) (sym g) (subst (λ n. IsSideAt faces r u v n) (sym h) k)))

pub renamed_left : (slots : List Slot) (p x y t q u v r : ℕ) → p ≡ q → x ≡ u → y ≡ v → t ≡ r → HasLeft slots q u v r → HasLeft slots p x y t
renamed_left slots p x y t q u v r e f g h k =
    subst (λ n. HasLeft slots n x y t) (sym e) (subst (λ n. HasLeft slots q n y t) (sym f)
    (subst (λ n. HasLeft slots q u n t) (sym g) (subst (λ n. HasLeft slots q u v n) (sym h) k)))

top_side : (s : Step) (x y w p : ℕ) → HasSideAt s.top x y w p → IsSideAt (new_faces s) s.i x y p
top_side s x y w p h =
    record {
      face = s.top;
      w = w;
      face_at = IsAt-set_other (set s.faces s.i s.top) s.j s.i s.bottom s.top (i_j s) (IsAt-set_here s.faces s.i s.top s.left_at.inside);
      side = h;
    }

bottom_side : (s : Step) (x y w p : ℕ) → HasSideAt s.bottom x y w p → IsSideAt (new_faces s) s.j x y p
bottom_side s x y w p h =
    record {
      face = s.bottom;
      w = w;
      face_at = IsAt-set_here (set s.faces s.i s.top) s.j s.bottom (omega (arith, length-set s.faces s.i s.top, s.right_at.inside));
      side = h;
    }

-- what a slot says that no write has touched
to_face_kept : (s : Step) (p x y t : ℕ) → p ≢ s.slot → ¬ IsThere p x y s.ub s.u s.b → ¬ IsThere p x y s.va s.v s.a
    → HasLeft s.slots p x y t → IsSideAt (new_faces s) t x y p
to_face_kept s p x y t ne no_ub no_va h =
    let k = s.fits.to_face p x y t h in
    ⊎_elim
    (λ t_i.
    let same = IsAt-only s.faces s.i k.face s.left (subst (λ n. IsAt s.faces n k.face) t_i k.face_at) s.left_at in
    let side = subst (λ f. HasSideAt f x y k.w p) same k.side in
    ⊎_elim
    (λ e. absurd (ne e.3))
    (λ d. ⊎_elim
    (λ e. absurd (no_va (e.3, e.0, e.1)))
    (λ e. renamed (new_faces s) t x y p s.i s.a s.u s.au t_i e.0 e.1 e.3
    (top_side s s.a s.u s.b s.au (third_side s.top s.top_is)))
    d)
    (HasSides-only s.left s.u s.v s.a s.slot s.va s.au x y k.w p s.left_is side))
    (λ t_not_i. ⊎_elim
    (λ t_j.
    let same = IsAt-only s.faces s.j k.face s.right (subst (λ n. IsAt s.faces n k.face) t_j k.face_at) s.right_at in
    let side = subst (λ f. HasSideAt f x y k.w p) same k.side in
    ⊎_elim
    (λ e. absurd (ne e.3))
    (λ d. ⊎_elim
    (λ e. absurd (no_ub (e.3, e.0, e.1)))
    (λ e. renamed (new_faces s) t x y p s.j s.b s.v s.bv t_j e.0 e.1 e.3
    (bottom_side s s.b s.v s.a s.bv (third_side s.bottom s.bottom_is)))
    d)
    (HasSides-only s.right s.v s.u s.b s.slot s.ub s.bv x y k.w p s.right_is side))
    (λ t_not_j. record {
      face = k.face;
      w = k.w;
      face_at = IsAt-set_other (set s.faces s.i s.top) s.j t s.bottom k.face t_not_j (IsAt-set_other s.faces s.i t s.top k.face t_not_i k.face_at);
      side = k.side;
    })
    (cases_eq t s.j))
    (cases_eq t s.i)

to_face_new : (s : Step) (p x y t : ℕ) → HasLeft (new_slots s) p x y t → IsSideAt (new_faces s) t x y p
to_face_new s p x y t h =
    ⊎_elim
    (λ (e, r). renamed (new_faces s) t x y p s.j s.v s.a s.va r e.1 e.2 e.0
    (bottom_side s s.v s.a s.b s.va (first_side s.bottom s.bottom_is)))
    (λ (no_va, h1). ⊎_elim
    (λ (e, r). renamed (new_faces s) t x y p s.i s.u s.b s.ub r e.1 e.2 e.0
    (top_side s s.u s.b s.a s.ub (first_side s.top s.top_is)))
    (λ (no_ub, h2). ⊎_elim
    (λ (e, d). ⊎_elim
    (λ k. renamed (new_faces s) t x y p s.i s.b s.a s.slot k.2 k.0 k.1 e
    (top_side s s.b s.a s.u s.slot (second_side s.top s.top_is)))
    (λ k. renamed (new_faces s) t x y p s.j s.a s.b s.slot k.2 k.0 k.1 e
    (bottom_side s s.a s.b s.v s.slot (second_side s.bottom s.bottom_is)))
    d)
    (λ (ne, h3). to_face_kept s p x y t ne no_ub no_va h3)
    (HasLeft-replace s.slots s.slot s.diagonal s.b s.a s.i s.j p x y t s.diagonal_is h2))
    (HasLeft-write (with_diagonal s) s.ub s.u s.b s.i s.ub_slot p x y t s.ub_at (ub_joins s) h1))
    (HasLeft-write (with_ub s) s.va s.v s.a s.j s.va_slot p x y t s.va_at (va_joins s) h)

-- what a face says that is neither of the two
to_slot_kept : (s : Step) (p x y t : ℕ) → t ≢ s.i → t ≢ s.j → IsSideAt s.faces t x y p → HasLeft (new_slots s) p x y t
to_slot_kept s p x y t not_i not_j k =
    let h = s.fits.to_slot p x y t k in
    stays_left s p x y t
    (λ e.
    let here = subst (λ n. HasLeft s.slots n x y t) e h in
    ⊎_elim
    (λ (x_u, y_v). not_i (HasLeft-only s.slots s.slot s.u s.v t s.i (renamed_left s.slots s.slot s.u s.v t s.slot x y t refl (sym x_u) (sym y_v) refl here) (at_uv s)))
    (λ (x_v, y_u). not_j (HasLeft-only s.slots s.slot s.v s.u t s.j (renamed_left s.slots s.slot s.v s.u t s.slot x y t refl (sym x_v) (sym y_u) refl here) (at_vu s)))
    (HasLeft-ends s.slots s.slot x y t s.u s.v s.i here (at_uv s)))
    (λ e. not_j (HasLeft-only s.slots s.ub s.u s.b t s.j (renamed_left s.slots s.ub s.u s.b t p x y t (sym e.0) (sym e.1) (sym e.2) refl h) (at_ub s)))
    (λ e. not_i (HasLeft-only s.slots s.va s.v s.a t s.i (renamed_left s.slots s.va s.v s.a t p x y t (sym e.0) (sym e.1) (sym e.2) refl h) (at_va s)))
    h

to_slot_new : (s : Step) (p x y t : ℕ) → IsSideAt (new_faces s) t x y p → HasLeft (new_slots s) p x y t
to_slot_new s p x y t k =
    ⊎_elim
    (λ (t_j, same).
    let side = subst (λ f. HasSideAt f x y k.w p) same k.side in
    ⊎_elim
    (λ e. renamed_left (new_slots s) p x y t s.va s.v s.a s.j e.3 e.0 e.1 t_j (new_va s))
    (λ d. ⊎_elim
    (λ e. renamed_left (new_slots s) p x y t s.slot s.a s.b s.j e.3 e.0 e.1 t_j (new_ab s))
    (λ e. renamed_left (new_slots s) p x y t s.bv s.b s.v s.j e.3 e.0 e.1 t_j (new_bv s))
    d)
    (HasSides-only s.bottom s.v s.a s.b s.va s.slot s.bv x y k.w p s.bottom_is side))
    (λ (not_j, k1). ⊎_elim
    (λ (t_i, same).
    let side = subst (λ f. HasSideAt f x y k.w p) same k.side in
    ⊎_elim
    (λ e. renamed_left (new_slots s) p x y t s.ub s.u s.b s.i e.3 e.0 e.1 t_i (new_ub s))
    (λ d. ⊎_elim
    (λ e. renamed_left (new_slots s) p x y t s.slot s.b s.a s.i e.3 e.0 e.1 t_i (new_ba s))
    (λ e. renamed_left (new_slots s) p x y t s.au s.a s.u s.i e.3 e.0 e.1 t_i (new_au s))
    d)
    (HasSides-only s.top s.u s.b s.a s.ub s.slot s.au x y k.w p s.top_is side))
    (λ (not_i, k2). to_slot_kept s p x y t not_i not_j (record { face = k.face; w = k.w; face_at = k2; side = k.side }))
    (IsAt-set s.faces s.i t s.top k.face k1))
    (IsAt-set (set s.faces s.i s.top) s.j t s.bottom k.face k.face_at)

pub Fits-flip : (s : Step) → Fits (new_faces s) (new_slots s)
Fits-flip s =
    record {
      few_faces = omega (arith, s.fits.few_faces, length-set (set s.faces s.i s.top) s.j s.bottom, length-set s.faces s.i s.top);
      few_slots = omega (
        arith,
        s.fits.few_slots,
        length-set (with_ub s) s.va (with_left s.va_slot s.v s.a s.j),
        length-set (with_diagonal s) s.ub (with_left s.ub_slot s.u s.b s.i),
        length-set s.slots s.slot s.diagonal,
      );
      to_face = to_face_new s;
      to_slot = to_slot_new s;
    }
