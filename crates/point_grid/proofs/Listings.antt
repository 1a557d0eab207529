-- Lists of all things of a kind, put together.
use Rattle.std.proofs.Common.{◌≡◌, ◌≢◌, ◌⊎◌, ℕ, ◌+◌, ◌-◌, ◌<◌, ◌≤◌, List, [], ◌∷◌, ◌++◌, length, get_or, AllPairs, Contains, inl, inr, ⊎_elim, refl, arith, subst, length-append}
use Rattle.std.proofs.lemmas.Bool.{cases_lt}
use Rattle.std.proofs.lemmas.List.{get_or_append_left, get_or-append_right}
use Rattle.std.proofs.lemmas.List.Elements.{All-append, All-push, All-weaker, Contains-append_left, Contains-append_right, Contains-push}
use Rattle.std.proofs.lemmas.List.Quantifiers.{all_pairs_push}
use Rattle.exact_predicates.specs.Candidates.{AreMoreThan}
use Rattle.point_grid.specs.Listing.{IsListing}

-- what holds of each two members of two lists, and of each one of the first with each one of the second
AllPairs-append : {X : Type 0} (R : X → X → Type 0) (xs ys : List X) → AllPairs R xs → AllPairs R ys → ((i j : ℕ) (d : X) → i < length xs → j < length ys → R (get_or xs i d) (get_or ys j d)) → AllPairs R (xs ++ ys)
AllPairs-append R xs ys h k across i j d l j_in =
    ⊎_elim
    (λ m. rw (get_or_append_left xs ys d i (omega arith), get_or_append_left xs ys d j m) (h i j d l m))
    (λ m. let n = length-append xs ys in
    ⊎_elim
    (λ p. rw (get_or_append_left xs ys d i p, get_or-append_right xs ys (length xs) j d refl m) (across i (j - length xs) d p (omega arith)))
    (λ p. rw (get_or-append_right xs ys (length xs) i d refl p, get_or-append_right xs ys (length xs) j d refl m) (k (i - length xs) (j - length xs) d (omega arith) (omega arith)))
    (cases_lt i (length xs)))
    (cases_lt j (length xs))

module _ (X : Type 0) (Before : X → X → Type 0) (K : X → Type 0) where
  -- another way to say which things are listed
  pub listing_same : (P Q : X → Type 0) (xs : List X) → ((x : X) → P x → Q x) → ((x : X) → K x → Q x → P x) → IsListing Before K P xs → IsListing Before K Q xs
  listing_same P Q xs there back h = record {
    ascending = h.ascending;
    are = All-weaker P Q there xs h.are;
    each = h.each;
    all = λ x q k. h.all x (back x k q) k;
  }

  -- nothing is listed where nothing is P
  pub listing_none : (P : X → Type 0) → ((x : X) → ¬ P x) → IsListing Before K P []
  listing_none P none = record {
    ascending = λ i j d l k. absurd (omega arith);
    are = λ k d l. absurd (omega arith);
    each = λ k d l. absurd (omega arith);
    all = λ x p k. absurd (none x p);
  }

  -- two lists, of which the second comes after the first
  pub listing_append : (P Q : X → Type 0) (xs ys : List X) → IsListing Before K P xs → IsListing Before K Q ys → ((x y : X) → P x → Q y → Before x y) → IsListing Before K (λ x. P x ⊎ Q x) (xs ++ ys)
  listing_append P Q xs ys h k last = record {
    ascending = AllPairs-append Before xs ys h.ascending k.ascending (λ i j d l m. last _ _ (h.are i d l) (k.are j d m));
    are = All-append (λ x. P x ⊎ Q x) xs ys (All-weaker P (λ x. P x ⊎ Q x) (λ x p. inl p) xs h.are) (All-weaker Q (λ x. P x ⊎ Q x) (λ x q. inr q) ys k.are);
    each = All-append K xs ys h.each k.each;
    all = λ x p e. ⊎_elim (λ l. Contains-append_left xs ys x (h.all x l e)) (λ r. Contains-append_right xs ys x (k.all x r e)) p;
  }

  -- one more row
  pub listing_next_row : (first : X → ℕ) (a : ℕ) (xs ys : List X) → ((x y : X) → first x < first y → Before x y) → IsListing Before K (λ x. first x < a) xs → IsListing Before K (λ x. first x ≡ a) ys → IsListing Before K (λ x. first x < a + 1) (xs ++ ys)
  listing_next_row first a xs ys last h k =
      listing_same (λ x. (first x < a) ⊎ (first x ≡ a)) (λ x. first x < a + 1) (xs ++ ys)
      (λ x. ⊎_elim (λ l. omega arith) (λ e. omega arith))
      (λ x e l. ⊎_elim (λ m. inl m) (λ m. inr (omega arith)) (cases_lt (first x) a))
      (listing_append (λ x. first x < a) (λ x. first x ≡ a) xs ys h k (λ x y l e. last x y (omega arith)))

  -- what is listed tells how many there are
  pub listing_more : (P : X → Type 0) (limit : ℕ) (xs : List X) → ((x y : X) → Before x y → x ≢ y) → limit < length xs → IsListing Before K P xs → AreMoreThan K limit
  listing_more P limit xs apart more h = record {
    some = xs;
    distinct = λ i j d l m same. apart _ _ (h.ascending i j d l m) same;
    each = h.each;
    more = more;
  }

-- of the numbers that are K, those below b, ascending
abbrev pub AreBelow : (ℕ → Type 0) → ℕ → List ℕ → Type 0
AreBelow K b xs = IsListing (λ x y. x < y) K (λ x. x < b) xs

-- at first
pub below_none : (K : ℕ → Type 0) (b : ℕ) → ((x : ℕ) → K x → b ≤ x) → AreBelow K b []
below_none K b none = record {
  ascending = λ i j d l k. absurd (omega arith);
  are = λ k d l. absurd (omega arith);
  each = λ k d l. absurd (omega arith);
  all = λ x l k. let m = none x k in absurd (omega arith);
}

-- one more number, which is K or is not
pub below_push : (K : ℕ → Type 0) (b : ℕ) (xs : List ℕ) → K b → AreBelow K b xs → AreBelow K (b + 1) (xs ++ b ∷ [])
below_push K b xs k h = record {
  ascending = all_pairs_push (λ x y. x < y) xs b h.ascending h.are;
  are = All-push (λ x. x < b + 1) xs b (All-weaker (λ x. x < b) (λ x. x < b + 1) (λ x l. omega arith) xs h.are) (omega arith);
  each = All-push K xs b h.each k;
  all = λ x l m.
      ⊎_elim
      (λ n. Contains-append_left xs (b ∷ []) x (h.all x n m))
      (λ n. let e : b ≡ x = omega arith in subst (λ (y : ℕ). Contains (xs ++ b ∷ []) y) e (Contains-push xs b))
      (cases_lt x b);
}

pub below_skip : (K : ℕ → Type 0) (b : ℕ) (xs : List ℕ) → (¬ K b) → AreBelow K b xs → AreBelow K (b + 1) xs
below_skip K b xs none h =
    listing_same ℕ (λ x y. x < y) K (λ x. x < b) (λ x. x < b + 1) xs
    (λ x l. omega arith)
    (λ x k l. ⊎_elim (λ m. m) (λ m. let e : x ≡ b = omega arith in absurd (none (subst K e k))) (cases_lt x b))
    h
