-- A list of what passes a test, gathered in order.
use Rattle.std.proofs.Common.{◌≡◌, ℕ, zero, suc, ◌+◌, ◌-◌, ◌<◌, ◌≤◌, List, [], ◌∷◌, ◌++◌, length, get_or, All, AllPairs, Contains, sym, ◌∙◌, subst, ⊎_elim, arith}
use Rattle.std.proofs.lemmas.Bool.{cases_lt}
use Rattle.std.proofs.lemmas.List.{get_or_default}
use Rattle.std.proofs.lemmas.List.Elements.{All-push, Contains-append_left, Contains-push}
use Rattle.std.proofs.lemmas.List.Quantifiers.{all_pairs_push}
use Rattle.flip_finish.specs.Places.{IsAt}
use Rattle.flip_finish.proofs.Standing.{IsAt-only}
use Rattle.flip_claims.specs.Rounds.{ArePicked}

module _ (P : ℕ → Type 0) (xs : List ℕ) where
  -- ys are what passes among the first k
  pub record ArePickedTo (ys : List ℕ) (k : ℕ) : Type 0 where
    pub ascending : AllPairs (λ x y. x < y) ys
    pub each : All P ys
    pub within : All (λ y. (j : ℕ) × (j < k) × IsAt xs j y) ys
    pub all : (j x : ℕ) → j < k → IsAt xs j x → P x → Contains ys x

  pub picked_start : ArePickedTo [] 0
  picked_start = record {
    ascending = λ i j d l m. absurd (omega arith);
    each = λ i d l. absurd (omega arith);
    within = λ i d l. absurd (omega arith);
    all = λ j x l. absurd (omega arith);
  }

  -- one more passes
  pub picked_more : (ys : List ℕ) (k x : ℕ) → AllPairs (λ y z. y < z) xs → ArePickedTo ys k → IsAt xs k x → P x → ArePickedTo (ys ++ x ∷ []) (k + 1)
  picked_more ys k x ascends h at_k passes = record {
    ascending = all_pairs_push (λ y z. y < z) ys x h.ascending (λ i d low.
        let (j, before, at_j) = h.within i d low in
        let here = ascends j k (get_or ys i d) before at_k.inside in
        subst (λ (z : ℕ). z < x) at_j.is (subst (λ (z : ℕ). get_or xs j (get_or ys i d) < z) (get_or_default xs k (get_or ys i d) x at_k.inside ∙ at_k.is) here));
    each = All-push P ys x h.each passes;
    within = All-push (λ y. (j : ℕ) × (j < k + 1) × IsAt xs j y) ys x (λ i d low. let (j, before, at_j) = h.within i d low in (j, omega arith, at_j)) (k, omega arith, at_k);
    all = λ j y low at_j holds. ⊎_elim
        (λ (old : j < k). Contains-append_left ys (x ∷ []) y (h.all j y old at_j holds))
        (λ (new : k ≤ j).
        let same : k ≡ j = omega arith in
        let is : x ≡ y = IsAt-only xs j x y (subst (λ (i : ℕ). IsAt xs i x) same at_k) at_j in
        subst (Contains (ys ++ x ∷ [])) is (Contains-push ys x))
        (cases_lt j k);
  }

  -- one more does not
  pub picked_same : (ys : List ℕ) (k x : ℕ) → ArePickedTo ys k → IsAt xs k x → ¬ P x → ArePickedTo ys (k + 1)
  picked_same ys k x h at_k fails = record {
    ascending = h.ascending;
    each = h.each;
    within = λ i d low. let (j, before, at_j) = h.within i d low in (j, omega arith, at_j);
    all = λ j y low at_j holds. ⊎_elim
        (λ (old : j < k). h.all j y old at_j holds)
        (λ (new : k ≤ j).
        let same : k ≡ j = omega arith in
        absurd (fails (subst P (sym (IsAt-only xs j x y (subst (λ (i : ℕ). IsAt xs i x) same at_k) at_j)) holds)))
        (cases_lt j k);
  }

  -- all were gone through
  pub picked_end : (ys : List ℕ) (k : ℕ) → length xs ≤ k → ArePickedTo ys k → ArePicked P xs ys
  picked_end ys k past h = record {
    ascending = h.ascending;
    each = h.each;
    within = λ i d low. let (j, before, at_j) = h.within i d low in (j, at_j.inside, at_j.is);
    all = λ x (j, j_in, at_j) holds. h.all j x (omega arith) (record { inside = j_in; is = at_j }) holds;
  }

-- the numbers below k, ascending
pub record AreNumbers (ys : List ℕ) (k : ℕ) : Type 0 where
  pub ascending : AllPairs (λ x y. x < y) ys
  pub below : All (λ y. y < k) ys
  pub all : (x : ℕ) → x < k → Contains ys x

pub numbers_more : (ys : List ℕ) (k : ℕ) → AreNumbers ys k → AreNumbers (ys ++ k ∷ []) (k + 1)
numbers_more ys k h = record {
  ascending = all_pairs_push (λ y z. y < z) ys k h.ascending h.below;
  below = All-push (λ y. y < k + 1) ys k (λ i d low. let l = h.below i d low in omega arith) (omega arith);
  all = λ x low. ⊎_elim
      (λ (old : x < k). Contains-append_left ys (k ∷ []) x (h.all x old))
      (λ (new : k ≤ x). let same : k ≡ x = omega arith in subst (Contains (ys ++ k ∷ [])) same (Contains-push ys k))
      (cases_lt x k);
}

-- in an ascending list each number is at least its place
place_below : (xs : List ℕ) → AllPairs (λ x y. x < y) xs → (k d : ℕ) → k < length xs → k ≤ get_or xs k d
place_below xs ascends zero d l = omega arith
place_below xs ascends (suc k) d l = let before = place_below xs ascends k d (omega arith) in let more = ascends k (suc k) d (omega arith) l in omega arith

-- so there are at most n below n
pub few_below : (xs : List ℕ) (n : ℕ) → AllPairs (λ x y. x < y) xs → All (λ x. x < n) xs → length xs ≤ n
few_below xs n ascends below =
    ⊎_elim
    (λ (some : 0 < length xs).
    let last : ℕ = length xs - 1 in
    let low : last < length xs = omega arith in
    let most = place_below xs ascends last 0 low in
    let less = below last 0 low in
    omega arith)
    (λ (none : length xs ≤ 0). omega arith)
    (cases_lt 0 (length xs))
