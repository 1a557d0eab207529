-- Sums over the views.
use Rattle.std.proofs.Common.{◌≡◌, ◌≢◌, ℕ, zero, suc, ◌+◌, ◌≤◌, List, [], ◌∷◌, ◌++◌, set, sym, refl, ap, arith}
use mathlib.Core.Option.{some, some-injective, some-ne-none}
use lib.ListN.{get_elem?}
use Rattle.flip_claims.specs.declared.view.Known.{Known}
use Rattle.flip_claims.specs.Rule.{total}

module _ (f : Known → ℕ) where
  pub total_set : (l : List Known) (i : ℕ) (v w : Known) → get_elem? l i ≡ some v → total f (set l i w) + f v ≡ total f l + f w
  total_set [] i v w e = absurd (some-ne-none v (sym e))
  total_set (x ∷ xs) zero v w e = let is : f x ≡ f v = ap f (some-injective x v e) in omega arith
  total_set (x ∷ xs) (suc i) v w e = let r = total_set xs i v w e in omega arith

  pub total_last : (l : List Known) (v : Known) → total f (l ++ v ∷ []) ≡ total f l + f v
  total_last [] v = omega arith
  total_last (x ∷ xs) v = let r = total_last xs v in omega arith

  -- one view has no more than all of them
  total_one : (l : List Known) (i : ℕ) (v : Known) → get_elem? l i ≡ some v → f v ≤ total f l
  total_one [] i v e = absurd (some-ne-none v (sym e))
  total_one (x ∷ xs) zero v e = let is : f x ≡ f v = ap f (some-injective x v e) in omega arith
  total_one (x ∷ xs) (suc i) v e = let r = total_one xs i v e in omega arith

  -- and nor have two
  pub total_two : (l : List Known) (i j : ℕ) (v w : Known) → i ≢ j → get_elem? l i ≡ some v → get_elem? l j ≡ some w → f v + f w ≤ total f l
  total_two [] i j v w n d e = absurd (some-ne-none v (sym d))
  total_two (x ∷ xs) zero zero v w n d e = absurd (n refl)
  total_two (x ∷ xs) zero (suc j) v w n d e = let is : f x ≡ f v = ap f (some-injective x v d) in let r = total_one xs j w e in omega arith
  total_two (x ∷ xs) (suc i) zero v w n d e = let is : f x ≡ f w = ap f (some-injective x w e) in let r = total_one xs i v d in omega arith
  total_two (x ∷ xs) (suc i) (suc j) v w n d e = let r = total_two xs i j v w (λ h. n (ap suc h)) d e in omega arith
