-- The corners of a triangle in cyclic order.
use Rattle.std.proofs.Common.{◌≡◌, ◌⊎◌, ℕ, sym, ◌∙◌, ⊎_elim, inl, inr}
use Rattle.exact_predicates.specs.declared.tri.Tri.{Tri}
use Rattle.exact_predicates.specs.Triangulation.{HasCorners}

-- the corners of a triangle in cyclic order are known but for the one that comes first
pub corners_turned : (t : Tri) (u v w x y z : ℕ) → HasCorners t u v w → HasCorners t x y z
    → ((u ≡ x) × (v ≡ y) × (w ≡ z)) ⊎ (((v ≡ x) × (w ≡ y) × (u ≡ z)) ⊎ ((w ≡ x) × (u ≡ y) × (v ≡ z)))
corners_turned t u v w x y z h k =
    ⊎_elim
    (λ a. ⊎_elim
    (λ b. inl (sym a.0 ∙ b.0, sym a.1 ∙ b.1, sym a.2 ∙ b.2))
    (λ n. ⊎_elim
    (λ b. inr (inl (sym a.1 ∙ b.0, sym a.2 ∙ b.1, sym a.0 ∙ b.2)))
    (λ b. inr (inr (sym a.2 ∙ b.0, sym a.0 ∙ b.1, sym a.1 ∙ b.2)))
    n)
    k)
    (λ m. ⊎_elim
    (λ a. ⊎_elim
    (λ b. inr (inr (sym a.2 ∙ b.0, sym a.0 ∙ b.1, sym a.1 ∙ b.2)))
    (λ n. ⊎_elim
    (λ b. inl (sym a.0 ∙ b.0, sym a.1 ∙ b.1, sym a.2 ∙ b.2))
    (λ b. inr (inl (sym a.1 ∙ b.0, sym a.2 ∙ b.1, sym a.0 ∙ b.2)))
    n)
    k)
    (λ a. ⊎_elim
    (λ b. inr (inl (sym a.1 ∙ b.0, sym a.2 ∙ b.1, sym a.0 ∙ b.2)))
    (λ n. ⊎_elim
    (λ b. inr (inr (sym a.2 ∙ b.0, sym a.0 ∙ b.1, sym a.1 ∙ b.2)))
    (λ b. inl (sym a.0 ∙ b.0, sym a.1 ∙ b.1, sym a.2 ∙ b.2))
    n)
    k)
    m)
    h
