-- Faces as seen from the edge of a slot.
use Rattle.std.proofs.Common.{◌≡◌, ◌≢◌, ℕ, ◌<◌, List, length, Some, arith, sym, ◌∙◌, subst, ⊎_elim, inl, inr}
use Rattle.exact_predicates.specs.Triangulation.{IsCorner}
use Rattle.exact_predicates.proofs.Equalities.{Joins-comm, Joins-ends}
use Rattle.flip_finish.specs.declared.face.Face.{Face}
use Rattle.flip_finish.specs.declared.face.Seen.{Seen}
use Rattle.flip_finish.specs.declared.slot.Slot.{Slot}
use Rattle.flip_finish.specs.Across.{IsAcross, IsSeen}
use Rattle.flip_finish.specs.Face.{Fits, HasSideAt, HasSides}
use Rattle.flip_finish.specs.Mesh.{HasLeft}
use Rattle.flip_finish.specs.Places.{IsAt}
use Rattle.flip_finish.proofs.Faces.{HasSides-only, first_side, second_side}
use Rattle.flip_finish.proofs.Slots.{left_down, left_up}
use Rattle.flip_finish.proofs.Standing.{IsAt-only}

-- what a slot says of its two sides
pub HasLeft-up : (slots : List Slot) (p t : ℕ) (s : Slot) → IsAt slots p s → s.left ≡ Some t → HasLeft slots p s.edge.a s.edge.b t
HasLeft-up slots p t s at_p h =
    record { slot = s; slot_at = at_p; joins = Joins-ends s.edge; left = left_up s s.edge.a s.edge.b s.edge.ascending ∙ h }

pub HasLeft-down : (slots : List Slot) (p t : ℕ) (s : Slot) → IsAt slots p s → s.right ≡ Some t → HasLeft slots p s.edge.b s.edge.a t
HasLeft-down slots p t s at_p h =
    let up = s.edge.ascending in
    record { slot = s; slot_at = at_p; joins = Joins-comm s.edge s.edge.a s.edge.b (Joins-ends s.edge); left = left_down s s.edge.b s.edge.a (omega arith) ∙ h }

-- the corners of a face differ
pub first_apart : (f : Face) (u v w p q r : ℕ) → HasSides f u v w p q r → u ≢ v
first_apart f u v w p q r h e =
    let ab = f.tri.below_b in
    let ac = f.tri.below_c in
    let bc = f.tri.apart in
    ⊎_elim
    (λ k. let k0 = k.0 in let k1 = k.1 in absurd (omega arith))
    (λ d. ⊎_elim (λ k. bc (k.0 ∙ (e ∙ sym k.1))) (λ k. let k0 = k.0 in let k1 = k.1 in absurd (omega arith)) d)
    h

turned : (f : Face) (u v w p q r : ℕ) → HasSides f u v w p q r → HasSides f v w u q r p
turned f u v w p q r h =
    ⊎_elim
    (λ e. inr (inl (e.1, e.2, e.0, e.4, e.5, e.3)))
    (λ k. ⊎_elim (λ e. inr (inr (e.1, e.2, e.0, e.4, e.5, e.3))) (λ e. inl (e.1, e.2, e.0, e.4, e.5, e.3)) k)
    h

pub second_apart : (f : Face) (u v w p q r : ℕ) → HasSides f u v w p q r → v ≢ w
second_apart f u v w p q r h = first_apart f v w u q r p (turned f u v w p q r h)

pub third_apart : (f : Face) (u v w p q r : ℕ) → HasSides f u v w p q r → w ≢ u
third_apart f u v w p q r h = second_apart f v w u q r p (turned f u v w p q r h)

-- a triangle that a slot names is there
pub face_in : (faces : List Face) (slots : List Slot) (p x y t : ℕ) → Fits faces slots → HasLeft slots p x y t → t < length faces
face_in faces slots p x y t fits h = (fits.to_face p x y t h).face_at.inside

-- and has the side
pub side_there : (faces : List Face) (slots : List Slot) (p x y t : ℕ) (f : Face) → Fits faces slots → HasLeft slots p x y t → IsAt faces t f
    → (w : ℕ) × HasSideAt f x y w p
side_there faces slots p x y t f fits h at_t =
    let k = fits.to_face p x y t h in
    (k.w, subst (λ g. HasSideAt g x y k.w p) (IsAt-only faces t k.face f k.face_at at_t) k.side)

pub corner_there : (faces : List Face) (slots : List Slot) (p x y t : ℕ) (f : Face) → Fits faces slots → HasLeft slots p x y t → IsAt faces t f
    → IsCorner f.tri x
corner_there faces slots p x y t f fits h at_t =
    let (w, side) = side_there faces slots p x y t f fits h at_t in
    ⊎_elim (λ e. inl (sym e.0)) (λ k. ⊎_elim (λ e. inr (inl (sym e.0))) (λ e. inr (inr (sym e.0))) k) side

-- seen from the corner x the face shows the side at the slot
pub seen_there : (faces : List Face) (slots : List Slot) (p x y t : ℕ) (f : Face) (s : Seen) → Fits faces slots → HasLeft slots p x y t → IsAt faces t f
    → HasSides f s.u s.v s.w s.uv s.vw s.wu → s.u ≡ x → (s.v ≡ y) × (s.uv ≡ p)
seen_there faces slots p x y t f s fits h at_t sides e =
    let (w, side) = side_there faces slots p x y t f fits h at_t in
    ⊎_elim
    (λ k. (sym k.1, sym k.3))
    (λ d. ⊎_elim
    (λ k. absurd (first_apart f s.u s.v s.w s.uv s.vw s.wu sides (e ∙ k.0)))
    (λ k. absurd (third_apart f s.u s.v s.w s.uv s.vw s.wu sides (sym (e ∙ k.0))))
    d)
    (HasSides-only f s.u s.v s.w s.uv s.vw s.wu x y w p sides side)

-- the three sides of a face that is seen are at their slots
pub first_left : (faces : List Face) (slots : List Slot) (t p : ℕ) (s : Seen) → Fits faces slots → IsSeen faces t p s → HasLeft slots s.uv s.u s.v t
first_left faces slots t p s fits h =
    fits.to_slot s.uv s.u s.v t (record { face = h.face; w = s.w; face_at = h.face_at; side = first_side h.face h.sides })

pub second_left : (faces : List Face) (slots : List Slot) (t p : ℕ) (s : Seen) → Fits faces slots → IsSeen faces t p s → HasLeft slots s.vw s.v s.w t
second_left faces slots t p s fits h =
    fits.to_slot s.vw s.v s.w t (record { face = h.face; w = s.u; face_at = h.face_at; side = second_side h.face h.sides })

-- the two faces on an edge uv, seen from their corners u and v
pub IsAcross-seen : (faces : List Face) (slots : List Slot) (p u v i j : ℕ) (left right : Face) (s t : Seen)
    → Fits faces slots → u < v → HasLeft slots p u v i → HasLeft slots p v u j → IsAt faces i left → IsAt faces j right
    → HasSides left s.u s.v s.w s.uv s.vw s.wu → HasSides right t.u t.v t.w t.uv t.vw t.wu → s.u ≡ u → t.u ≡ v
    → IsAcross faces p (record { i = i; j = j; left = s; right = t })
IsAcross-seen faces slots p u v i j left right s t fits up uv vu at_i at_j s_sides t_sides s_u t_v =
    let s_there = seen_there faces slots p u v i left s fits uv at_i s_sides s_u in
    let t_there = seen_there faces slots p v u j right t fits vu at_j t_sides t_v in
    record {
      left = record { face = left; face_at = at_i; sides = s_sides; slot_is = s_there.1 };
      right = record { face = right; face_at = at_j; sides = t_sides; slot_is = t_there.1 };
      up = omega (arith, s_there.0);
      u_is = t_there.0 ∙ sym s_u;
      v_is = t_v ∙ sym s_there.0;
    }
