-- Membership in lists, and the elements that flags pick.
use Rattle.std.proofs.Common.{◌≡◌, ◌⊎◌, ℕ, zero, suc, ◌<◌, Bool, true, false, List, [], ◌∷◌, length, get_or, All, AllPairs, Contains, refl, ⊎_elim, inl, inr, sym, ◌∙◌, subst, arith}
use Rattle.std.specs.List.{items_where_true, range_with_len}
use Rattle.std.proofs.lemmas.Bool.{false≢true, cases_lt}
use Rattle.std.proofs.lemmas.List.{get_or_past}
use Rattle.std.proofs.lemmas.List.Elements.{All-contains}
use Rattle.std.proofs.lemmas.List.Kept.{AllPairs-cons}
use Rattle.std.proofs.lemmas.List.FromFn.{get_or-range_with_len, length-range_with_len}
use Rattle.exact_predicates.proofs.ListFacts.{AllPairs-head, AllPairs-tail}
use Rattle.lmt_network.specs.Flags.{live_numbers}

module _ {X : Type 0} where
  pub Contains-here : (x : X) (xs : List X) → Contains (x ∷ xs) x
  Contains-here x xs = (zero, omega arith, refl)

  pub Contains-later : (y x : X) (xs : List X) → Contains xs x → Contains (y ∷ xs) x
  Contains-later y x xs (k, k_in, at_k) = (suc k, omega arith, at_k)

  pub Contains-cases : (y x : X) (xs : List X) → Contains (y ∷ xs) x → (y ≡ x) ⊎ Contains xs x
  Contains-cases y x xs (zero, k_in, at_k) = inl at_k
  Contains-cases y x xs (suc k, k_in, at_k) = inr (k, omega arith, at_k)

  pub Contains-nil : (x : X) → ¬ Contains [] x
  Contains-nil x (k, k_in, at_k) = absurd (omega arith)

  -- a fact of each member
  pub All-from_members : (P : X → Type 0) (xs : List X) → ((x : X) → Contains xs x → P x) → All P xs
  All-from_members P xs each = λ k d k_in. each (get_or xs k d) (k, k_in, same xs k d k_in)
    where
      same : (ys : List X) (j : ℕ) (e : X) → j < length ys → get_or ys j (get_or ys j e) ≡ get_or ys j e
      same [] j e l = absurd (omega arith)
      same (y ∷ ys) zero e l = refl
      same (y ∷ ys) (suc j) e l = same ys j e (omega arith)

  -- an element whose flag is true is picked
  pub picked_in : (bs : List Bool) (xs : List X) (k : ℕ) (d : X) → k < length xs → get_or bs k false ≡ true → Contains (items_where_true bs xs) (get_or xs k d)
  picked_in [] xs k d l h = absurd (false≢true h)
  picked_in (b ∷ bs) [] k d l h = absurd (omega arith)
  picked_in (true ∷ bs) (x ∷ xs) zero d l h = Contains-here x (items_where_true bs xs)
  picked_in (false ∷ bs) (x ∷ xs) zero d l h = absurd (false≢true h)
  picked_in (true ∷ bs) (x ∷ xs) (suc k) d l h = Contains-later x (get_or xs k d) (items_where_true bs xs) (picked_in bs xs k d (omega arith) h)
  picked_in (false ∷ bs) (x ∷ xs) (suc k) d l h = picked_in bs xs k d (omega arith) h

  -- what is picked stands where a flag is true
  pub picked_from : (bs : List Bool) (xs : List X) (x : X) → Contains (items_where_true bs xs) x
      → (k : ℕ) × (k < length xs) × (get_or bs k false ≡ true) × (get_or xs k x ≡ x)
  picked_from [] xs x h = absurd (Contains-nil x h)
  picked_from (b ∷ bs) [] x h = absurd (Contains-nil x h)
  picked_from (true ∷ bs) (y ∷ xs) x h =
      ⊎_elim
      (λ (e : y ≡ x). (zero, omega arith, refl, e))
      (λ (t : Contains (items_where_true bs xs) x). let r = picked_from bs xs x t in (suc r.0, omega (arith, r.1), r.2, r.3))
      (Contains-cases y x (items_where_true bs xs) h)
  picked_from (false ∷ bs) (y ∷ xs) x h = let r = picked_from bs xs x h in (suc r.0, omega (arith, r.1), r.2, r.3)

  pub All-picked : (P : X → Type 0) (bs : List Bool) (xs : List X) → All P xs → All P (items_where_true bs xs)
  All-picked P bs xs h = All-from_members P (items_where_true bs xs)
      (λ x has. let r = picked_from bs xs x has in All-contains P xs x h (r.0, r.1, r.3))

  -- what is picked keeps its order
  pub AllPairs-picked : (R : X → X → Type 0) (bs : List Bool) (xs : List X) → AllPairs R xs → AllPairs R (items_where_true bs xs)
  AllPairs-picked R [] xs h = λ i j d l k. absurd (omega arith)
  AllPairs-picked R (b ∷ bs) [] h = λ i j d l k. absurd (omega arith)
  AllPairs-picked R (true ∷ bs) (x ∷ xs) h =
      AllPairs-cons R x (items_where_true bs xs) (All-picked (R x) bs xs (AllPairs-head R x xs h)) (AllPairs-picked R bs xs (AllPairs-tail R x xs h))
  AllPairs-picked R (false ∷ bs) (x ∷ xs) h = AllPairs-picked R bs xs (AllPairs-tail R x xs h)

-- a flag that is true stands within the list
pub flag_in : (flags : List Bool) (e : ℕ) → get_or flags e false ≡ true → e < length flags
flag_in flags e h = ⊎_elim (λ l. l) (λ past. absurd (false≢true (sym (get_or_past flags e false past) ∙ h))) (cases_lt e (length flags))

-- the live numbers are those whose flag is true
pub live_from_flag : (flags : List Bool) (e : ℕ) → get_or flags e false ≡ true → Contains (live_numbers flags) e
live_from_flag flags e h =
    let l = flag_in flags e h in
    let there : e < length (range_with_len 0 (length flags)) = omega (arith, length-range_with_len 0 (length flags)) in
    let is : get_or (range_with_len 0 (length flags)) e 0 ≡ e = omega (arith, get_or-range_with_len 0 (length flags) e 0 l) in
    subst (λ (x : ℕ). Contains (live_numbers flags) x) is (picked_in flags (range_with_len 0 (length flags)) e 0 there h)

pub flag_from_live : (flags : List Bool) (e : ℕ) → Contains (live_numbers flags) e → get_or flags e false ≡ true
flag_from_live flags e h =
    let r = picked_from flags (range_with_len 0 (length flags)) e h in
    let l : r.0 < length flags = omega (arith, r.1, length-range_with_len 0 (length flags)) in
    let is : r.0 ≡ e = omega (arith, get_or-range_with_len 0 (length flags) r.0 e l, r.3) in
    subst (λ (x : ℕ). get_or flags x false ≡ true) is r.2
