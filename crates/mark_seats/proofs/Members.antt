-- Members of lists.
use Rattle.std.proofs.Common.{◌≡◌, ◌≢◌, ◌⊎◌, ℕ, ◌<◌, ◌≤◌, Bool, true, cond, List, zero, suc, [], ◌∷◌, ◌++◌, length, get_or, set, All, Any, AllPairs, Contains, sym, ap, ◌∙◌, subst, inl, inr, ⊎_elim, arith, eq-eqb, ne_eqb, length-append, length-set, get_or-set_other, get_or-set_same}
use Rattle.std.specs.List.{range_with_len}
use Rattle.std.proofs.lemmas.Bool.{false≢true}
use Rattle.std.proofs.lemmas.List.Elements.{Contains-append_left, Contains-append_right, Contains-append_cases}
use Rattle.std.proofs.lemmas.List.FromFn.{get_or-range_with_len, length-range_with_len}
use Rattle.std.proofs.lemmas.List.Kept.{AllPairs-cons}
use Rattle.std.proofs.Math.ListN.{get_or-append}
use Rattle.std.proofs.Math.Seq.{get_or-append_seam}
use mathlib.Core.Logic.{dite}
use mathlib.Core.Option.{some, some-injective, some-ne-none}
use native.Mathlib.Decide.{ℕ_discrete}
use lib.ListN.{get_elem?}
use Rattle.exact_predicates.proofs.Few.{length-le_from_distinct}
use Rattle.lmt_network.proofs.Picked.{Contains-here, Contains-later, Contains-cases, Contains-nil, All-from_members}
use Rattle.mark_seats.specs.Bits.{has_number}

module _ {X : Type 0} where
  -- the members of a list with one more at its end
  pub contains_last : (xs : List X) (x : X) → Contains (xs ++ x ∷ []) x
  contains_last xs x = Contains-append_right xs (x ∷ []) x (Contains-here x [])

  pub contains_more : (xs : List X) (y x : X) → Contains xs x → Contains (xs ++ y ∷ []) x
  contains_more xs y x h = Contains-append_left xs (y ∷ []) x h

  pub contains_cut : (xs : List X) (y x : X) → Contains (xs ++ y ∷ []) x → Contains xs x ⊎ (y ≡ x)
  contains_cut xs y x h = ⊎_elim
      (λ (t : Contains xs x). inl t)
      (λ (t : Contains (y ∷ []) x). ⊎_elim (λ (e : y ≡ x). inr e) (λ (u : Contains [] x). absurd (Contains-nil x u)) (Contains-cases y x [] t))
      (Contains-append_cases xs (y ∷ []) x h)

  -- a fact of the elements before the last, and of the last
  pub all_front : (P : X → Type 0) (l xs : List X) (a : X) → l ≡ xs ++ a ∷ [] → All P l → All P xs
  all_front P l xs a is all k d low = let n = ap length is in let m = length-append xs (a ∷ []) in
      subst P (ap (λ (z : List X). get_or z k d) is ∙ get_or-append xs (a ∷ []) d k low) (all k d (omega arith))

  pub all_end : (P : X → Type 0) (l xs : List X) (a : X) → l ≡ xs ++ a ∷ [] → All P l → P a
  all_end P l xs a is all = let n = ap length is in let m = length-append xs (a ∷ []) in
      subst P (ap (λ (z : List X). get_or z (length xs) a) is ∙ get_or-append_seam xs a [] a) (all (length xs) a (omega arith))

  -- the item at a place
  pub item_at : (xs : List X) (i : ℕ) (d x : X) → get_elem? xs i ≡ some x → (i < length xs) × (get_or xs i d ≡ x)
  item_at [] i d x h = absurd (some-ne-none x (sym h))
  item_at (y ∷ ys) zero d x h = (omega arith, some-injective y x h)
  item_at (y ∷ ys) (suc i) d x h = let t = item_at ys i d x h in let low = t.0 in (omega arith, t.1)

  -- what is so of some item is so of some item of more
  pub any_more : (P : X → Type 0) (xs ys : List X) → ((x : X) → Contains xs x → Contains ys x) → Any P xs → Any P ys
  any_more P xs ys more h = let k = more h.1 (h.0, h.2, h.3) in (k.0, h.1, k.1, k.2, h.4)

  -- a change of one item, of which it stays so
  pub any_after : (P : X → Type 0) (xs : List X) (i : ℕ) (x y : X) → get_elem? xs i ≡ some x → (P x → P y) → Any P xs → Any P (set xs i y)
  any_after P xs i x y at stays (k, z, low, is, h) = let here = item_at xs i z x at in let wide = length-set xs i y in dite (ℕ_discrete k i)
      (λ (e : k ≡ i). let same : x ≡ z = sym here.1 ∙ (ap (λ (j : ℕ). get_or xs j z) (sym e) ∙ is) in let l = here.0 in (i, y, omega arith, get_or-set_same xs i y y here.0, stays (subst P (sym same) h)))
      (λ other. (k, z, omega arith, get_or-set_other xs i k y z other ∙ is, h))

-- distinct numbers with one more
pub distinct_more : (x : ℕ) (xs : List ℕ) → ¬ Contains xs x → AllPairs (λ e f. e ≢ f) xs → AllPairs (λ e f. e ≢ f) (x ∷ xs)
distinct_more x xs new once = AllPairs-cons (λ e f. e ≢ f) x xs
    (All-from_members (λ f. x ≢ f) xs (λ f h same. new (subst (λ (e : ℕ). Contains xs e) (sym same) h))) once

-- distinct numbers below n are at most n
pub distinct_length : (xs : List ℕ) (n : ℕ) → AllPairs (λ e f. e ≢ f) xs → ((e : ℕ) → Contains xs e → e < n) → length xs ≤ n
distinct_length xs n once below = let below_n : List ℕ = range_with_len 0 n in let wide : length below_n ≡ n = length-range_with_len 0 n in
    let few = length-le_from_distinct below_n xs once (All-from_members (Contains below_n) xs (λ e h. let low = below e h in let at = get_or-range_with_len 0 n e e low in let is : get_or below_n e e ≡ e = omega arith in (e, omega arith, is))) in omega arith

pub contains_number : (e : ℕ) (l : List ℕ) → has_number e l ≡ true → Contains l e
contains_number e [] h = absurd (false≢true h)
contains_number e (y ∷ ys) h = dite (ℕ_discrete y e)
    (λ is. subst (λ (x : ℕ). Contains (y ∷ ys) x) is (Contains-here y ys))
    (λ n. Contains-later y e ys (contains_number e ys (ap (λ (b : Bool). cond b true (has_number e ys)) (sym (ne_eqb y e n)) ∙ h)))

pub number_contained : (e : ℕ) (l : List ℕ) → Contains l e → has_number e l ≡ true
number_contained e [] h = absurd (Contains-nil e h)
number_contained e (y ∷ ys) h = dite (ℕ_discrete y e)
    (λ is. ap (λ (b : Bool). cond b true (has_number e ys)) (eq-eqb y e is))
    (λ n. ⊎_elim (λ (is : y ≡ e). absurd (n is)) (λ (t : Contains ys e). ap (λ (b : Bool). cond b true (has_number e ys)) (ne_eqb y e n) ∙ number_contained e ys t) (Contains-cases y e ys h))
