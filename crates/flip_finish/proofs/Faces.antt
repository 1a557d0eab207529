-- The sides of a face.
use Rattle.std.proofs.Common.{◌≡◌, ℕ, sym, ◌∙◌, ⊎_elim, ◌⊎◌, inl, inr, refl}
use Rattle.exact_predicates.specs.Triangulation.{HasCorners}
use Rattle.flip_finish.specs.declared.face.Face.{Face}
use Rattle.flip_finish.specs.Face.{HasSideAt, HasSides}

pub HasSideAt-corners : (f : Face) (x y w p : ℕ) → HasSideAt f x y w p → HasCorners f.tri x y w
HasSideAt-corners f x y w p h =
    ⊎_elim (λ e. inl (e.0, e.1, e.2)) (λ k. ⊎_elim (λ e. inr (inl (e.0, e.1, e.2))) (λ e. inr (inr (e.0, e.1, e.2))) k) h

-- each side has a slot
pub side_of_corners : (f : Face) (x y w : ℕ) → HasCorners f.tri x y w → (p : ℕ) × HasSideAt f x y w p
side_of_corners f x y w h =
    ⊎_elim
    (λ e. (f.ab, inl (e.0, e.1, e.2, refl)))
    (λ k. ⊎_elim (λ e. (f.bc, inr (inl (e.0, e.1, e.2, refl)))) (λ e. (f.ca, inr (inr (e.0, e.1, e.2, refl)))) k)
    h

-- the three sides of a face
pub first_side : (f : Face) {u v w p q r : ℕ} → HasSides f u v w p q r → HasSideAt f u v w p
first_side f h =
    ⊎_elim
    (λ e. inl (e.0, e.1, e.2, e.3))
    (λ k. ⊎_elim (λ e. inr (inl (e.0, e.1, e.2, e.3))) (λ e. inr (inr (e.0, e.1, e.2, e.3))) k)
    h

pub second_side : (f : Face) {u v w p q r : ℕ} → HasSides f u v w p q r → HasSideAt f v w u q
second_side f h =
    ⊎_elim
    (λ e. inr (inl (e.1, e.2, e.0, e.4)))
    (λ k. ⊎_elim (λ e. inr (inr (e.1, e.2, e.0, e.4))) (λ e. inl (e.1, e.2, e.0, e.4)) k)
    h

pub third_side : (f : Face) {u v w p q r : ℕ} → HasSides f u v w p q r → HasSideAt f w u v r
third_side f h =
    ⊎_elim
    (λ e. inr (inr (e.2, e.0, e.1, e.5)))
    (λ k. ⊎_elim (λ e. inl (e.2, e.0, e.1, e.5)) (λ e. inr (inl (e.2, e.0, e.1, e.5))) k)
    h

-- x to y, across from z and at the slot s, is u to v, across from w and at p
abbrev pub IsSame : ℕ → ℕ → ℕ → ℕ → ℕ → ℕ → ℕ → ℕ → Type 0
IsSame x y z s u v w p = (x ≡ u) × (y ≡ v) × (z ≡ w) × (s ≡ p)

-- a face has no sides but its three
pub HasSides-only : (f : Face) (u v w p q r x y z s : ℕ) → HasSides f u v w p q r → HasSideAt f x y z s
    → IsSame x y z s u v w p ⊎ (IsSame x y z s v w u q ⊎ IsSame x y z s w u v r)
HasSides-only f u v w p q r x y z s h k =
    ⊎_elim
    (λ e. ⊎_elim
    (λ g. inl (sym g.0 ∙ e.0, sym g.1 ∙ e.1, sym g.2 ∙ e.2, sym g.3 ∙ e.3))
    (λ m. ⊎_elim
    (λ g. inr (inl (sym g.0 ∙ e.1, sym g.1 ∙ e.2, sym g.2 ∙ e.0, sym g.3 ∙ e.4)))
    (λ g. inr (inr (sym g.0 ∙ e.2, sym g.1 ∙ e.0, sym g.2 ∙ e.1, sym g.3 ∙ e.5)))
    m)
    k)
    (λ n. ⊎_elim
    (λ e. ⊎_elim
    (λ g. inr (inr (sym g.0 ∙ e.2, sym g.1 ∙ e.0, sym g.2 ∙ e.1, sym g.3 ∙ e.5)))
    (λ m. ⊎_elim
    (λ g. inl (sym g.0 ∙ e.0, sym g.1 ∙ e.1, sym g.2 ∙ e.2, sym g.3 ∙ e.3))
    (λ g. inr (inl (sym g.0 ∙ e.1, sym g.1 ∙ e.2, sym g.2 ∙ e.0, sym g.3 ∙ e.4)))
    m)
    k)
    (λ e. ⊎_elim
    (λ g. inr (inl (sym g.0 ∙ e.1, sym g.1 ∙ e.2, sym g.2 ∙ e.0, sym g.3 ∙ e.4)))
    (λ m. ⊎_elim
    (λ g. inr (inr (sym g.0 ∙ e.2, sym g.1 ∙ e.0, sym g.2 ∙ e.1, sym g.3 ∙ e.5)))
    (λ g. inl (sym g.0 ∙ e.0, sym g.1 ∙ e.1, sym g.2 ∙ e.2, sym g.3 ∙ e.3))
    m)
    k)
    n)
    h

-- the other two sides of a face that has one
pub with_sides : (f : Face) (x y w p : ℕ) → HasSideAt f x y w p → (q : ℕ) × (r : ℕ) × HasSides f x y w p q r
with_sides f x y w p h =
    ⊎_elim
    (λ e. (f.bc, f.ca, inl (e.0, e.1, e.2, e.3, refl, refl)))
    (λ k. ⊎_elim
    (λ e. (f.ca, f.ab, inr (inl (e.0, e.1, e.2, e.3, refl, refl))))
    (λ e. (f.ab, f.bc, inr (inr (e.0, e.1, e.2, e.3, refl, refl))))
    k)
    h
