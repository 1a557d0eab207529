-- Lists: what some element keeps, and sums of nothing and of something.
use Rattle.std.proofs.Common.{◌≡◌, ℕ, zero, suc, ◌+◌, ◌-◌, ◌≤◌, List, [], ◌∷◌, ◌++◌, length, sum_by, All, Any, arith, sym, ◌∙◌, refl, ⊎_elim, ◌⊎◌, inl, inr}
use Rattle.std.proofs.lemmas.Bool.{cases_lt}
use Rattle.std.proofs.lemmas.List.{length-append, get_or_append_left, get_or-append-add, get_or-append_right}
use Rattle.std.proofs.lemmas.List.Elements.{All-weaker}
use Rattle.std.proofs.lemmas.List.Sorted.{Contains-permutation}
use Rattle.std.proofs.lemmas.List.Sums.{sum_by-cons, sum_by-le}
use Rattle.std.specs.List.Sorted.{IsPermutation}

-- what some element of the first list keeps, some element of both keeps
pub Any-append_left : {X : Type 0} (P : X → Type 0) (xs ys : List X) → Any P xs → Any P (xs ++ ys)
Any-append_left P xs ys (k, x, k_in, at_k, h) = (k, x, omega (arith, length-append xs ys), get_or_append_left xs ys x k k_in ∙ at_k, h)

-- and so with the second list
pub Any-append_right : {X : Type 0} (P : X → Type 0) (xs ys : List X) → Any P ys → Any P (xs ++ ys)
Any-append_right P xs ys (k, x, k_in, at_k, h) = (length xs + k, x, omega (arith, length-append xs ys), get_or-append-add xs ys k x ∙ at_k, h)

-- and only what some element of either keeps
pub Any-append_cases : {X : Type 0} (P : X → Type 0) (xs ys : List X) → Any P (xs ++ ys) → Any P xs ⊎ Any P ys
Any-append_cases P xs ys (k, x, k_in, at_k, h) =
    ⊎_elim
    (λ l. inl (k, x, l, sym (get_or_append_left xs ys x k l) ∙ at_k, h))
    (λ l. inr (k - length xs, x, omega (arith, length-append xs ys), sym (get_or-append_right xs ys (length xs) k x refl l) ∙ at_k, h))
    (cases_lt k (length xs))

-- a weaker fact holds of the same element
pub Any-weaker : {X : Type 0} (P Q : X → Type 0) → ((x : X) → P x → Q x) → (xs : List X) → Any P xs → Any Q xs
Any-weaker P Q weaker xs (k, x, k_in, at_k, h) = (k, x, k_in, at_k, weaker x h)

-- the order of the elements is free
pub Any-permutation : {X : Type 0} (P : X → Type 0) (xs ys : List X) → IsPermutation xs ys → Any P xs → Any P ys
Any-permutation P xs ys p (k, x, k_in, at_k, h) =
    let (j, j_in, at_j) = Contains-permutation xs ys x p (k, k_in, at_k) in
    (j, x, j_in, at_j, h)

-- a sum of nothing
pub sum_by-none : {X : Type 0} (f : X → ℕ) (xs : List X) → All (λ x. f x ≡ 0) xs → sum_by f xs ≡ 0
sum_by-none f xs h = omega (arith, sum_by-le f 0 xs (All-weaker (λ x. f x ≡ 0) (λ x. f x ≤ 0) (λ x e. omega arith) xs h))

-- a sum that is not 0 has a part that is not 0
pub sum_by-some : {X : Type 0} (f : X → ℕ) (xs : List X) → 1 ≤ sum_by f xs → Any (λ x. 1 ≤ f x) xs
sum_by-some f [] l = absurd (omega arith)
sum_by-some f (x ∷ xs) l =
    ⊎_elim
    (λ none. let (k, y, k_in, at_k, h) = sum_by-some f xs (omega (arith, sum_by-cons f x xs, l)) in (suc k, y, omega arith, at_k, h))
    (λ here. (zero, x, omega arith, refl, here))
    (cases_lt (f x) 1)
