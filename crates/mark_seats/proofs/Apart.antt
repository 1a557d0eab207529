-- The notes of different seats stay apart.
use Rattle.std.proofs.Common.{◌≡◌, ◌≢◌, ◌⊎◌, ℕ, zero, suc, ◌+◌, ◌<◌, ◌≤◌, List, [], ◌∷◌, ◌++◌, length, set, sym, refl, ap, ◌∙◌, subst, inl, inr, ⊎_elim, arith}
use mathlib.Core.Option.{some, some-injective, some-ne-none}
use lib.ListN.{get_elem?}
use Rattle.atomic_table.proofs.Lists.{at_set}
use Rattle.mark_seats.specs.Seats.{Notes, AreApart}

other_way : (m n : Notes) → AreApart m n → AreApart n m
other_way m n h = ⊎_elim (λ (v : m.slot + m.splits < n.slot). inr v) (λ (v : n.slot + n.splits < m.slot). inl v) h

-- notes that become fewer
fewer : (m w n : Notes) → w.slot ≡ m.slot → w.splits ≤ m.splits → AreApart m n → AreApart w n
fewer m w n a b h = ⊎_elim (λ (v : m.slot + m.splits < n.slot). let g : w.slot + w.splits < n.slot = omega arith in inl g) (λ (v : n.slot + n.splits < m.slot). let g : n.slot + n.splits < w.slot = omega arith in inr g) h

at_end : {A : Type 0} (l : List A) (a b : A) (j : ℕ) → get_elem? (l ++ a ∷ []) j ≡ some b → (get_elem? l j ≡ some b) ⊎ ((a ≡ b) × (j ≡ length l))
at_end [] a b zero e = inr (some-injective a b e, refl)
at_end [] a b (suc j) e = absurd (some-ne-none b (sym e))
at_end (x ∷ xs) a b zero e = inl e
at_end (x ∷ xs) a b (suc j) e = ⊎_elim (λ t. inl t) (λ t. inr (t.0, ap suc t.1)) (at_end xs a b j e)

module _ {V : Type 0} (notes : V → Notes) where
  abbrev pub AllApart : List V → Type 0
  AllApart views = (i j : ℕ) (d e : V) → i ≢ j → get_elem? views i ≡ some d → get_elem? views j ≡ some e → AreApart (notes d) (notes e)

  pub apart_set : (views : List V) (id : ℕ) (d w : V) → get_elem? views id ≡ some d → (notes w).slot ≡ (notes d).slot → (notes w).splits ≤ (notes d).splits → AllApart views → AllApart (set views id w)
  apart_set views id d w at a b old i j x y n h₁ h₂ = ⊎_elim
      (λ (t : (i ≡ id) × (w ≡ x)). ⊎_elim
      (λ (u : (j ≡ id) × (w ≡ y)). absurd (n (t.0 ∙ sym u.0)))
      (λ (u : (j ≢ id) × (get_elem? views j ≡ some y)). subst (λ (v : V). AreApart (notes v) (notes y)) t.1 (fewer (notes d) (notes w) (notes y) a b (old id j d y (λ e. u.0 (sym e)) at u.1)))
      (at_set views id j w y h₂))
      (λ (t : (i ≢ id) × (get_elem? views i ≡ some x)). ⊎_elim
      (λ (u : (j ≡ id) × (w ≡ y)). subst (λ (v : V). AreApart (notes x) (notes v)) u.1 (other_way (notes w) (notes x) (fewer (notes d) (notes w) (notes x) a b (other_way (notes x) (notes d) (old i id x d t.0 t.1 at)))))
      (λ (u : (j ≢ id) × (get_elem? views j ≡ some y)). old i j x y n t.1 u.1)
      (at_set views id j w y h₂))
      (at_set views id i w x h₁)

  -- one more view, apart from the others
  pub apart_last : (views : List V) (o : V) → ((j : ℕ) (e : V) → get_elem? views j ≡ some e → AreApart (notes e) (notes o)) → AllApart views → AllApart (views ++ o ∷ [])
  apart_last views o far old i j x y n h₁ h₂ = ⊎_elim
      (λ (t : get_elem? views i ≡ some x). ⊎_elim
      (λ (u : get_elem? views j ≡ some y). old i j x y n t u)
      (λ (u : (o ≡ y) × (j ≡ length views)). subst (λ (v : V). AreApart (notes x) (notes v)) u.0 (far i x t))
      (at_end views o y j h₂))
      (λ (t : (o ≡ x) × (i ≡ length views)). ⊎_elim
      (λ (u : get_elem? views j ≡ some y). subst (λ (v : V). AreApart (notes v) (notes y)) t.0 (other_way (notes y) (notes o) (far j y u)))
      (λ (u : (o ≡ y) × (j ≡ length views)). absurd (n (t.1 ∙ sym u.1)))
      (at_end views o y j h₂))
      (at_end views o x i h₁)
