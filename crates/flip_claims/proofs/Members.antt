-- Members of lists.
use Rattle.std.proofs.Common.{◌≡◌, ◌⊎◌, ℕ, zero, suc, ◌<◌, List, [], ◌∷◌, ◌++◌, length, get_or, All, Contains, sym, refl, ◌∙◌, subst, inl, inr, arith, length-append}
use Rattle.std.proofs.lemmas.List.{get_or_append_left, get_or_default}
use mathlib.Core.Option.{some, some-ne-none}
use lib.ListN.{get_elem?}
use Rattle.flip_finish.specs.Places.{IsAt}

module _ {X : Type 0} where
  pub Contains-here : (x : X) (xs : List X) → Contains (x ∷ xs) x
  Contains-here x xs = (zero, omega arith, refl)

  pub Contains-later : (y x : X) (xs : List X) → Contains xs x → Contains (y ∷ xs) x
  Contains-later y x xs (k, k_in, at_k) = (suc k, omega arith, at_k)

  pub Contains-cases : (y x : X) (xs : List X) → Contains (y ∷ xs) x → (y ≡ x) ⊎ Contains xs x
  Contains-cases y x xs (zero, k_in, at_k) = inl at_k
  Contains-cases y x xs (suc k, k_in, at_k) = inr (k, omega arith, at_k)

  pub Contains-nil : (x : X) → ¬ Contains [] x
  Contains-nil x (k, k_in, at_k) = absurd (omega arith)

  -- where something stands is in the list
  pub in_list : (xs : List X) (i : ℕ) (x : X) → get_elem? xs i ≡ some x → i < length xs
  in_list [] i x h = absurd (some-ne-none x (sym h))
  in_list (y ∷ ys) zero x h = omega arith
  in_list (y ∷ ys) (suc i) x h = let l = in_list ys i x h in omega arith

-- what stands at a place
pub stands_at : (xs : List ℕ) (i : ℕ) → i < length xs → IsAt xs i (get_or xs i 0)
stands_at xs i l = record { inside = l; is = get_or_default xs i (get_or xs i 0) 0 l }

module _ {X : Type 0} where
  pub IsAt-append : (xs ys : List X) (k : ℕ) (x : X) → IsAt xs k x → IsAt (xs ++ ys) k x
  IsAt-append xs ys k x h = record { inside = omega (arith, length-append xs ys, h.inside); is = get_or_append_left xs ys x k h.inside ∙ h.is }

  pub IsAt-last : (xs : List X) (x : X) → IsAt (xs ++ x ∷ []) (length xs) x
  IsAt-last [] x = record { inside = omega arith; is = refl }
  IsAt-last (y ∷ ys) x = let h = IsAt-last ys x in let l = h.inside in record { inside = omega arith; is = h.is }

  -- a fact of all members holds of one
  pub All-at : (P : X → Type 0) (xs : List X) (k : ℕ) (x : X) → All P xs → IsAt xs k x → P x
  All-at P xs k x all h = subst P h.is (all k x h.inside)
