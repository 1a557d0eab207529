-- Slots are given to the sides of faces, one after another.
use Rattle.std.proofs.Common.{◌≡◌, ◌≢◌, ℕ, Bool, true, false, cond, nat_eq, List, set, arith, ap, sym, ◌∙◌, refl, subst, ⊎_elim, inl, inr}
use Rattle.std.proofs.lemmas.Bool.{cases_Bool, cases_eq, cond-false, cond-true}
use Rattle.std.proofs.lemmas.Bool.Decides.{Decides-eqb}
use Rattle.std.proofs.Math.Seq.{map-set_same}
use Rattle.exact_predicates.specs.declared.tri.Tri.{Tri}
use Rattle.exact_predicates.specs.Triangulation.{HasCorners}
use Rattle.flip_finish.specs.declared.face.Face.{Face}
use Rattle.flip_finish.specs.Face.{HasSideAt, IsAttached, IsSideAt, face_tris, with_slot}
use Rattle.flip_finish.specs.Places.{IsAt}
use Rattle.flip_finish.proofs.Standing.{IsAt-only, IsAt-set_here, IsAt-set_other, IsAt-unmap}

-- the slot that a face has for its side from x
at_first : (f : Face) (x p : ℕ) → x ≡ f.tri.a → (with_slot f x p).ab ≡ p
at_first f x p e = cond-true (nat_eq x f.tri.a) p f.ab ((Decides-eqb x f.tri.a).1 e)

eqb_no : (x y : ℕ) → x ≢ y → nat_eq x y ≡ false
eqb_no x y ne = ⊎_elim (λ e. absurd (ne ((Decides-eqb x y).0 e))) (λ e. e) (cases_Bool (nat_eq x y))

-- a face with a new slot for the side from x has it there
pub with_slot_here : (f : Face) (x y w p : ℕ) → HasCorners f.tri x y w → HasSideAt (with_slot f x p) x y w p
with_slot_here f x y w p h =
    let ab = f.tri.below_b in
    let ac = f.tri.below_c in
    ⊎_elim
    (λ e. inl (e.0, e.1, e.2, at_first f x p (sym e.0)))
    (λ k. ⊎_elim
    (λ e.
    let e0 = e.0 in
    let not_a : x ≢ f.tri.a = λ g. absurd (omega arith) in
    inr (inl (
      e.0,
      e.1,
      e.2,
      cond-false (nat_eq x f.tri.a) f.bc (cond (nat_eq x f.tri.b) p f.bc) (eqb_no x f.tri.a not_a) ∙ cond-true (nat_eq x f.tri.b) p f.bc ((Decides-eqb x f.tri.b).1 (sym e.0)),
    )))
    (λ e.
    let e0 = e.0 in
    let not_a : x ≢ f.tri.a = λ g. absurd (omega arith) in
    let not_b : x ≢ f.tri.b = λ g. f.tri.apart (sym g ∙ sym e.0) in
    inr (inr (
      e.0,
      e.1,
      e.2,
      cond-false (nat_eq x f.tri.a) f.ca (cond (nat_eq x f.tri.b) f.ca p) (eqb_no x f.tri.a not_a) ∙ cond-false (nat_eq x f.tri.b) f.ca p (eqb_no x f.tri.b not_b),
    )))
    k)
    h

-- and its other sides where they were, where x is a corner
pub with_slot_other : (f : Face) (x y z p u v w q : ℕ) → HasCorners f.tri x y z → u ≢ x → HasSideAt f u v w q → HasSideAt (with_slot f x p) u v w q
with_slot_other f x y z p u v w q corner ne h =
    ⊎_elim
    (λ e.
    let not_a : x ≢ f.tri.a = λ g. ne (sym e.0 ∙ sym g) in
    inl (e.0, e.1, e.2, cond-false (nat_eq x f.tri.a) p f.ab (eqb_no x f.tri.a not_a) ∙ e.3))
    (λ k. ⊎_elim
    (λ e.
    let not_b : x ≢ f.tri.b = λ g. ne (sym e.0 ∙ sym g) in
    inr (inl (e.0, e.1, e.2, ap (λ t. cond (nat_eq x f.tri.a) f.bc t) (cond-false (nat_eq x f.tri.b) p f.bc (eqb_no x f.tri.b not_b)) ∙ (either (nat_eq x f.tri.a) f.bc ∙ e.3))))
    (λ e.
    let not_c : x ≢ f.tri.c = λ g. ne (sym e.0 ∙ sym g) in
    inr (inr (e.0, e.1, e.2, third not_c corner ∙ e.3)))
    k)
    h
  where
    either : (b : Bool) (n : ℕ) → cond b n n ≡ n
    either true n = refl
    either false n = refl

    third : x ≢ f.tri.c → HasCorners f.tri x y z → (with_slot f x p).ca ≡ f.ca
    third not_c k =
        ⊎_elim
        (λ e. cond-true (nat_eq x f.tri.a) f.ca (cond (nat_eq x f.tri.b) f.ca p) ((Decides-eqb x f.tri.a).1 (sym e.0)))
        (λ d. ⊎_elim
        (λ e. ap (λ t. cond (nat_eq x f.tri.a) f.ca t) (cond-true (nat_eq x f.tri.b) f.ca p ((Decides-eqb x f.tri.b).1 (sym e.0))) ∙ either (nat_eq x f.tri.a) f.ca)
        (λ e. absurd (not_c (sym e.0)))
        d)
        k

-- one slot is given: the triangles stay
pub tris-attached : (old new : List Face) (t u p : ℕ) → IsAttached old new t u p → face_tris new ≡ face_tris old
tris-attached old new t u p h =
    ap (λ l. face_tris l) h.after ∙ map-set_same (λ f. f.tri) old t (with_slot h.face u p) h.face (ap (λ (f : Face). f.tri) (sym h.face_at.is))

-- the side has it
pub side-attached : (old new : List Face) (t x y w p : ℕ) (tri : Tri) → IsAttached old new t x p → IsAt (face_tris old) t tri → HasCorners tri x y w
    → IsSideAt new t x y p
side-attached old new t x y w p tri h at_t c =
    let (f, at_f, same) = IsAt-unmap (λ f. f.tri) old t tri at_t in
    let is_f = IsAt-only old t f h.face at_f h.face_at in
    let corners = subst (λ (g : Face). HasCorners g.tri x y w) is_f (subst (λ (k : Tri). HasCorners k x y w) (sym same) c) in
    record {
      face = with_slot h.face x p;
      w = w;
      face_at = subst (λ l. IsAt l t (with_slot h.face x p)) (sym h.after) (IsAt-set_here old t (with_slot h.face x p) h.face_at.inside);
      side = with_slot_here h.face x y w p corners;
    }

-- and all sides that begin at another corner, or are of another triangle, keep theirs
pub others-attached : (old new : List Face) (t x y w p s u v q : ℕ) (tri : Tri) → IsAttached old new t x p → IsAt (face_tris old) t tri → HasCorners tri x y w
    → ¬ ((s ≡ t) × (u ≡ x)) → IsSideAt old s u v q → IsSideAt new s u v q
others-attached old new t x y w p s u v q tri h at_t c away k =
    ⊎_elim
    (λ e.
    let (f, at_f, same) = IsAt-unmap (λ f. f.tri) old t tri at_t in
    let is_f = IsAt-only old t f h.face at_f h.face_at in
    let corners = subst (λ (g : Face). HasCorners g.tri x y w) is_f (subst (λ (k : Tri). HasCorners k x y w) (sym same) c) in
    let is_k = IsAt-only old t k.face h.face (subst (λ n. IsAt old n k.face) e k.face_at) h.face_at in
    let side = subst (λ g. HasSideAt g u v k.w q) is_k k.side in
    record {
      face = with_slot h.face x p;
      w = k.w;
      face_at = subst (λ l. IsAt l s (with_slot h.face x p)) (sym h.after) (subst (λ n. IsAt (set old t (with_slot h.face x p)) n (with_slot h.face x p)) (sym e) (IsAt-set_here old t (with_slot h.face x p) h.face_at.inside));
      side = with_slot_other h.face x y w p u v k.w q corners (λ g. away (e, g)) side;
    })
    (λ ne. record {
      face = k.face;
      w = k.w;
      face_at = subst (λ l. IsAt l s k.face) (sym h.after) (IsAt-set_other old t s (with_slot h.face x p) k.face ne k.face_at);
      side = k.side;
    })
    (cases_eq s t)
