-- Slot after slot is given to its two sides, and in the end faces and slots say the same.
use Rattle.std.proofs.Common.{◌≡◌, ℕ, ◌+◌, ◌<◌, ◌≤◌, ◌^◌, List, [], ◌∷◌, length, map, Option, Some, None, arith, ap, sym, ◌∙◌, refl, subst, ⊎_elim, ◌⊎◌, inl, inr}
use Rattle.std.proofs.lemmas.Bool.{cases_eq, cases_lt}
use Rattle.std.proofs.lemmas.List.{length-map}
use Rattle.std.proofs.lemmas.Option.{none-some}
use Rattle.std.specs.Option.{MatchOption}
use Rattle.exact_predicates.specs.declared.tri.Tri.{Tri}
use Rattle.exact_predicates.specs.Candidates.{Joins}
use Rattle.exact_predicates.specs.Triangulation.{HasCorners}
use Rattle.exact_predicates.proofs.Equalities.{Joins-comm, Joins-ends}
use Rattle.flip_finish.specs.declared.face.Face.{Face}
use Rattle.flip_finish.specs.declared.slot.Slot.{Slot}
use Rattle.flip_finish.specs.Face.{Fits, HasSideAt, IsAttached, IsSideAt, face_tris}
use Rattle.flip_finish.specs.Mesh.{HasLeft, triangle_left}
use Rattle.flip_finish.specs.Places.{IsAt}
use Rattle.flip_finish.specs.Slotted.{AreSlotsOf}
use Rattle.flip_finish.proofs.Attaching.{others-attached, side-attached, tris-attached}
use Rattle.flip_finish.proofs.Faces.{HasSideAt-corners, HasSides-only, with_sides}
use Rattle.flip_finish.proofs.Fitting.{renamed, renamed_left}
use Rattle.flip_finish.proofs.Seeing.{first_apart, third_apart}
use Rattle.flip_finish.proofs.Slots.{HasLeft-apart, HasLeft-ends, HasLeft-only, Joins-apart, Joins-ends_only, left_down, left_up}
use Rattle.flip_finish.proofs.Standing.{IsAt-map, IsAt-only}

-- the sides that are done have their slots: those that begin at x in the slot p where it says so
pub record AreGiven (tris : List Tri) (faces : List Face) (slots : List Slot) (Done : ℕ → ℕ → Type 0) : Type 0 where
  pub same : face_tris faces ≡ tris
  pub given : (p x y t : ℕ) → Done p x → HasLeft slots p x y t → IsSideAt faces t x y p

-- one more, that of the slot n from u
abbrev pub AndFrom : (ℕ → ℕ → Type 0) → ℕ → ℕ → ℕ → ℕ → Type 0
AndFrom Done n u p x = Done p x ⊎ ((p ≡ n) × (x ≡ u))

-- the next corner is known
next_only : (t : Tri) (u v w y z : ℕ) → HasCorners t u v w → HasCorners t u y z → v ≡ y
next_only t u v w y z h k =
    let ab = t.below_b in let ac = t.below_c in let bc = t.apart in omega (arith, h, k)

given_some : (tris : List Tri) (old new : List Face) (slots : List Slot) (Done : ℕ → ℕ → Type 0) (n u v t : ℕ) → AreSlotsOf tris slots
    → AreGiven tris old slots Done → HasLeft slots n u v t → IsAttached old new t u n → AreGiven tris new slots (AndFrom Done n u)
given_some tris old new slots Done n u v t of g here h =
    record {
      same = tris-attached old new t u n h ∙ g.same;
      given = λ p x y r done k. ⊎_elim
          (λ before. ⊎_elim
          (λ r_t. ⊎_elim
          (λ x_u.
          let k1 = renamed_left slots p u y t p x y r refl (sym x_u) refl (sym r_t) k in
          let (tri2, z, at2, c2) = of.sound p u y t k1 in
          let same_tri = IsAt-only tris t tri2 tri at2 at_t in
          let y_v = next_only tri u v w y z corners (subst (λ (s : Tri). HasCorners s u y z) same_tri c2) in
          let p_n = of.unique p n u v t (renamed_left slots p u v t p u y t refl refl y_v refl k1) here in
          renamed new r x y p t u v n r_t x_u (sym y_v) p_n own)
          (λ ne. others-attached old new t u v w n r x y p tri h at_old corners (λ e. ne e.1) (g.given p x y r before k))
          (cases_eq x u))
          (λ ne. others-attached old new t u v w n r x y p tri h at_old corners (λ e. ne e.0) (g.given p x y r before k))
          (cases_eq r t))
          (λ (p_n, x_u).
          let k1 = renamed_left slots n u y r p x y r (sym p_n) (sym x_u) refl refl k in
          ⊎_elim
          (λ (e, y_v).
          let r_t = HasLeft-only slots n u v r t (renamed_left slots n u v r n u y r refl refl (sym y_v) refl k1) here in
          renamed new r x y p t u v n r_t x_u y_v p_n own)
          (λ (e, f). absurd (HasLeft-apart slots n u v t here e))
          (HasLeft-ends slots n u y r u v t k1 here))
          done;
    }
  where
    found : (tri : Tri) × (w : ℕ) × IsAt tris t tri × HasCorners tri u v w
    found = of.sound n u v t here

    tri : Tri
    tri = found.0

    w : ℕ
    w = found.1

    at_t : IsAt tris t tri
    at_t = found.2

    corners : HasCorners tri u v w
    corners = found.3

    at_old : IsAt (face_tris old) t tri
    at_old = subst (λ l. IsAt l t tri) (sym g.same) at_t

    own : IsSideAt new t u v n
    own = side-attached old new t u v w n tri h at_old corners

given_none : (tris : List Tri) (old new : List Face) (slots : List Slot) (Done : ℕ → ℕ → Type 0) (n u : ℕ)
    → AreGiven tris old slots Done → ((y t : ℕ) → ¬ HasLeft slots n u y t) → new ≡ old → AreGiven tris new slots (AndFrom Done n u)
given_none tris old new slots Done n u g none e =
    subst (λ l. AreGiven tris l slots (AndFrom Done n u)) (sym e)
    (record {
      same = g.same;
      given = λ p x y t done k. ⊎_elim
          (λ before. g.given p x y t before k)
          (λ (p_n, x_u). absurd (none y t (renamed_left slots n u y t p x y t (sym p_n) (sym x_u) refl refl k)))
          done;
    })

-- what there is on the left of x to y is attached, or nothing changes
given_side : (tris : List Tri) (old new : List Face) (slots : List Slot) (Done : ℕ → ℕ → Type 0) (n : ℕ) (s : Slot) (x y : ℕ) → AreSlotsOf tris slots
    → AreGiven tris old slots Done → IsAt slots n s → Joins s.edge x y → (o : Option ℕ) → triangle_left s x y ≡ o
    → MatchOption o (new ≡ old) (λ t. IsAttached old new t x n) → AreGiven tris new slots (AndFrom Done n x)
given_side tris old new slots Done n s x y of g at_n j None e h =
    given_none tris old new slots Done n x g
    (λ z t k.
    let same = IsAt-only slots n k.slot s k.slot_at at_n in
    let joins = subst (λ (r : Slot). Joins r.edge x z) same k.joins in
    let z_y : z ≡ y = ⊎_elim (λ f. f.1) (λ f. absurd (Joins-apart s.edge x y j f.0)) (Joins-ends_only s.edge x z x y joins j) in
    none-some t (sym e ∙ (ap (λ w. triangle_left s x w) (sym z_y) ∙ (ap (λ r. triangle_left r x z) (sym same) ∙ k.left))))
    h
given_side tris old new slots Done n s x y of g at_n j (Some t) e h =
    given_some tris old new slots Done n x y t of g (record { slot = s; slot_at = at_n; joins = j; left = e }) h

pub given_left : (tris : List Tri) (old new : List Face) (slots : List Slot) (Done : ℕ → ℕ → Type 0) (n : ℕ) (s : Slot) → AreSlotsOf tris slots
    → AreGiven tris old slots Done → IsAt slots n s → MatchOption s.left (new ≡ old) (λ t. IsAttached old new t s.edge.a n)
    → AreGiven tris new slots (AndFrom Done n s.edge.a)
given_left tris old new slots Done n s of g at_n h =
    let up = s.edge.ascending in
    given_side tris old new slots Done n s s.edge.a s.edge.b of g at_n (Joins-ends s.edge) s.left (left_up s s.edge.a s.edge.b up) h

pub given_right : (tris : List Tri) (old new : List Face) (slots : List Slot) (Done : ℕ → ℕ → Type 0) (n : ℕ) (s : Slot) → AreSlotsOf tris slots
    → AreGiven tris old slots Done → IsAt slots n s → MatchOption s.right (new ≡ old) (λ t. IsAttached old new t s.edge.b n)
    → AreGiven tris new slots (AndFrom Done n s.edge.b)
given_right tris old new slots Done n s of g at_n h =
    let up = s.edge.ascending in
    given_side tris old new slots Done n s s.edge.b s.edge.a of g at_n (Joins-comm s.edge s.edge.a s.edge.b (Joins-ends s.edge)) s.right
    (left_down s s.edge.b s.edge.a (omega arith)) h

-- after both the slot is done
pub given_next : (tris : List Tri) (faces : List Face) (slots : List Slot) (n : ℕ) (s : Slot) → IsAt slots n s
    → AreGiven tris faces slots (AndFrom (AndFrom (λ p x. p < n) n s.edge.a) n s.edge.b) → AreGiven tris faces slots (λ p x. p < n + 1)
given_next tris faces slots n s at_n g =
    record {
      same = g.same;
      given = λ p x y t l k. ⊎_elim
          (λ below. g.given p x y t (inl (inl below)) k)
          (λ above.
          let p_n : p ≡ n = omega arith in
          let same = IsAt-only slots n k.slot s (subst (λ m. IsAt slots m k.slot) p_n k.slot_at) at_n in
          let joins = subst (λ (z : Slot). Joins z.edge x y) same k.joins in
          ⊎_elim
          (λ f. g.given p x y t (inl (inr (p_n, f.0))) k)
          (λ f. g.given p x y t (inr (p_n, f.0)) k)
          (Joins-ends_only s.edge x y s.edge.a s.edge.b joins (Joins-ends s.edge)))
          (cases_lt p n);
    }

-- a side of a face is at one slot
side_slot_only : (f : Face) (x y w z p q : ℕ) → HasSideAt f x y w p → HasSideAt f x y z q → p ≡ q
side_slot_only f x y w z p q h k =
    let (r, s, sides) = with_sides f x y w p h in
    ⊎_elim
    (λ e. sym e.3)
    (λ d. ⊎_elim
    (λ e. absurd (first_apart f x y w p r s sides e.0))
    (λ e. absurd (third_apart f x y w p r s sides (sym e.0)))
    d)
    (HasSides-only f x y w p r s x y z q sides k)

pub Fits-given : (tris : List Tri) (faces : List Face) (slots : List Slot) (n : ℕ) → AreSlotsOf tris slots → length faces < 2 ^ 32 → length slots ≤ n
    → AreGiven tris faces slots (λ p x. p < n) → Fits faces slots
Fits-given tris faces slots n of few all g =
    let to_face : (p x y t : ℕ) → HasLeft slots p x y t → IsSideAt faces t x y p
    = λ p x y t h. g.given p x y t (omega (arith, h.slot_at.inside)) h in
    record {
      few_faces = few;
      few_slots = of.few;
      to_face = to_face;
      to_slot = λ p x y t h.
          let at_t : IsAt tris t h.face.tri = subst (λ l. IsAt l t h.face.tri) g.same (IsAt-map (λ f. f.tri) faces t h.face h.face_at) in
          let (q, left) = of.complete t h.face.tri x y h.w at_t (HasSideAt-corners h.face x y h.w p h.side) in
          let k = to_face q x y t left in
          let side = subst (λ f. HasSideAt f x y k.w q) (IsAt-only faces t k.face h.face k.face_at h.face_at) k.side in
          renamed_left slots p x y t q x y t (side_slot_only h.face x y h.w k.w p q h.side side) refl refl refl left;
    }

-- a triangle that a slot names is there
pub left_in : (tris : List Tri) (faces : List Face) (slots : List Slot) (p x y t : ℕ) → AreSlotsOf tris slots → face_tris faces ≡ tris
    → HasLeft slots p x y t → t < length faces
left_in tris faces slots p x y t of same h =
    let (tri, w, at_t, c) = of.sound p x y t h in
    omega (arith, at_t.inside, ap (λ (l : List Tri). length l) same, length-map faces (λ f. f.tri))

pub given_start : (faces : List Face) (slots : List Slot) → AreGiven (face_tris faces) faces slots (λ p x. p < 0)
given_start faces slots = record { same = refl; given = λ p x y t l h. absurd (omega arith) }

-- the triangles of faces that were made of them
pub tris_of_unattached : (ts : List Tri) → face_tris (map (λ t. record { tri = t; ab = 0; bc = 0; ca = 0 }) ts) ≡ ts
tris_of_unattached [] = refl
tris_of_unattached (t ∷ ts) = ap (λ l. t ∷ l) (tris_of_unattached ts)
