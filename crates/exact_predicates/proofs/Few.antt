-- Distinct things are no more than a list that has them all is long.
use Rattle.std.proofs.Common.{◌≡◌, ◌≢◌, ℕ, zero, suc, ◌<◌, ◌≤◌, List, [], ◌∷◌, length, get_or, All, AllPairs, Contains, Bool, true, eqb, arith, refl, sym, ◌∙◌, ap, subst}
use Rattle.std.specs.List.{list_any}
use Rattle.std.proofs.lemmas.Bool.Decides.{Decides-eqb, nat_tests}
use Rattle.std.proofs.lemmas.List.{get_or_default}
use Rattle.std.proofs.lemmas.List.Folds.{Any-from_list_any}
use Rattle.std.proofs.lemmas.Map.Made.{IsDistinct-from_AllPairs}
use Rattle.std.proofs.lemmas.Map.Steps.{length-le_from_distinct_below}
use Rattle.exact_predicates.specs.Candidates.{AreMoreThan}

-- where the members of one list stand in another
record ArePlaces {X : Type 0} (xs some : List X) (places : List ℕ) : Type 0 where
  size : length places ≡ length some
  within : All (λ k. k < length xs) places
  at : (i : ℕ) (d : X) → i < length some → get_or xs (get_or places i 0) d ≡ get_or some i d

places_of : {X : Type 0} (xs some : List X) → All (Contains xs) some → (places : List ℕ) × ArePlaces xs some places
places_of xs [] h = ([], record { size = refl; within = λ k d l. absurd (omega arith); at = λ i d l. absurd (omega arith) })
places_of {X} xs (x ∷ some) h =
    let (k, k_in, at_k) = h 0 x (omega arith) in
    let (places, p) = places_of xs some (λ i d l. h (suc i) d (omega arith)) in
    (k ∷ places, record { size = omega (arith, p.size); within = within k k_in places p; at = at k k_in at_k places p })
  where
    within : (k : ℕ) → k < length xs → (places : List ℕ) → ArePlaces xs some places → All (λ k. k < length xs) (k ∷ places)
    within k k_in places p zero d l = k_in
    within k k_in places p (suc i) d l = p.within i d (omega arith)

    at : (k : ℕ) → k < length xs → get_or xs k x ≡ x → (places : List ℕ) → ArePlaces xs some places
        → (i : ℕ) (d : X) → i < length (x ∷ some) → get_or xs (get_or (k ∷ places) i 0) d ≡ get_or (x ∷ some) i d
    at k k_in at_k places p zero d l = get_or_default xs k d x k_in ∙ at_k
    at k k_in at_k places p (suc i) d l = p.at i d (omega arith)

-- equal numbers, by the test
same_number : (q r : ℕ) → eqb q r ≡ true → q ≡ r
same_number q r e = grind (arith, nat_tests)

-- distinct members of a list are no more than it is long
pub length-le_from_distinct : {X : Type 0} (xs some : List X) → AllPairs (λ x y. x ≢ y) some → All (Contains xs) some → length some ≤ length xs
length-le_from_distinct xs [] distinct all = omega arith
length-le_from_distinct {X} xs (x ∷ rest) distinct all =
    let (places, p) = places_of xs (x ∷ rest) all in
    let apart : AllPairs (λ j k. j ≢ k) places = λ i j d i_j j_in same.
    let size : length places ≡ length (x ∷ rest) = p.size in
    let i_in : i < length places = omega arith in
    let one : get_or places i 0 ≡ get_or places j 0 = sym (get_or_default places i d 0 i_in) ∙ (same ∙ get_or_default places j d 0 j_in) in
    distinct i j x i_j (omega arith) (sym (p.at i x (omega arith)) ∙ (ap (λ k. get_or xs k x) one ∙ p.at j x (omega arith))) in
    let below : (q : ℕ) → list_any (eqb q) places ≡ true → q < length xs = λ q found.
    let (k, r, k_in, at_k, same) = Any-from_list_any (eqb q) places found in
    let e : q ≡ r = same_number q r same in
    let h : get_or places k r < length xs = p.within k r k_in in
    omega (arith, e, at_k, h) in
    let few : length places ≤ length xs = length-le_from_distinct_below places (length xs) (IsDistinct-from_AllPairs Decides-eqb places apart) below in
    omega (arith, p.size)

-- where a list of no more than so many things has them all, there are not more
pub few_from_list : {X : Type 0} (P : X → Type 0) (xs : List X) (limit : ℕ) → ((x : X) → P x → Contains xs x) → length xs ≤ limit → ¬ AreMoreThan P limit
few_from_list P xs limit has few more =
    let fits : length more.some ≤ length xs = length-le_from_distinct xs more.some more.distinct (λ k d l. has (get_or more.some k d) (more.each k d l)) in
    omega (arith, more.more)
