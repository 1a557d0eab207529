-- Sums over the views.
use Rattle.std.proofs.Common.{◌≡◌, ℕ, zero, suc, ◌+◌, ◌*◌, ◌≤◌, List, [], ◌∷◌, ◌++◌, length, set, sym, refl, ap, arith, suc-mul}
use mathlib.Core.Option.{some, some-injective, some-ne-none}
use lib.ListN.{get_elem?}
use Rattle.mark_seats.specs.Seats.{total}

module _ {V : Type 0} (f : V → ℕ) where
  pub total_set : (l : List V) (i : ℕ) (v w : V) → get_elem? l i ≡ some v → total f (set l i w) + f v ≡ total f l + f w
  total_set [] i v w e = absurd (some-ne-none v (sym e))
  total_set (x ∷ xs) zero v w e = let is : f x ≡ f v = ap f (some-injective x v e) in omega arith
  total_set (x ∷ xs) (suc i) v w e = let r = total_set xs i v w e in omega arith

  pub total_last : (l : List V) (v : V) → total f (l ++ v ∷ []) ≡ total f l + f v
  total_last [] v = omega arith
  total_last (x ∷ xs) v = let r = total_last xs v in omega arith

  pub total_at : (l : List V) (i : ℕ) (v : V) → get_elem? l i ≡ some v → f v ≤ total f l
  total_at [] i v e = absurd (some-ne-none v (sym e))
  total_at (x ∷ xs) zero v e = let is : f x ≡ f v = ap f (some-injective x v e) in omega arith
  total_at (x ∷ xs) (suc i) v e = let r = total_at xs i v e in omega arith

  pub total_only : (l : List V) (i : ℕ) (v : V) → get_elem? l i ≡ some v → length l ≤ 1 → total f l ≡ f v
  total_only [] i v e few = absurd (some-ne-none v (sym e))
  total_only (x ∷ []) zero v e few = let is : f x ≡ f v = ap f (some-injective x v e) in omega arith
  total_only (x ∷ []) (suc i) v e few = absurd (some-ne-none v (sym e))
  total_only (x ∷ y ∷ ys) i v e few = absurd (omega arith)

  pub total_at_most : (n : ℕ) (l : List V) → ((i : ℕ) (v : V) → get_elem? l i ≡ some v → f v ≤ n) → total f l ≤ length l * n
  total_at_most n [] each = omega arith
  total_at_most n (x ∷ xs) each = let r = total_at_most n xs (λ i v e. each (suc i) v e) in let h = each 0 x refl in let m = suc-mul (length xs) n in omega arith
