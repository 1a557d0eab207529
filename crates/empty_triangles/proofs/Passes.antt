-- What a place sees, found by one pass over the places before it.
use Rattle.std.proofs.Common.{◌≡◌, ◌≢◌, ◌⊎◌, ℕ, ◌+◌, ◌<◌, ◌≤◌, List, [], ◌∷◌, ◌++◌, length, All, AllPairs, Contains, ⊎_elim, inl, inr, refl, arith, subst}
use Rattle.std.proofs.lemmas.Bool.{cases_lt}
use Rattle.std.proofs.lemmas.List.Elements.{All-push, All-weaker, Contains-push, Contains-append_left}
use Rattle.std.proofs.lemmas.List.Quantifiers.{all_pairs_push}
use Rattle.exact_predicates.specs.declared.point.Point.{Point}
use Rattle.empty_triangles.specs.Rays.{AreTurning, IsAhead, IsSeen, AreSeen}
use Rattle.empty_triangles.proofs.Seen.{seen_after}

-- k is the last place that j sees, of those from i on
pub record IsLastSeen (ps : List Point) (heads : List ℕ) (j i k : ℕ) : Type 0 where
  pub seen : IsSeen ps heads k j
  pub from : i ≤ k
  pub behind : (x : ℕ) → i ≤ x → x < k → ¬ IsAhead ps heads j k x

-- the places from i on that j sees, and the last of them, which is j itself where there is none
pub record AreSeenFrom (ps : List Point) (heads : List ℕ) (j i k : ℕ) (found : List ℕ) : Type 0 where
  pub each : All (λ x. IsSeen ps heads x j) found
  pub all : (x : ℕ) → i ≤ x → IsSeen ps heads x j → Contains found x
  pub from : All (λ x. i ≤ x) found
  pub falling : AllPairs (λ x y. y < x) found
  pub last : ((k ≡ j) × (i ≡ j)) ⊎ IsLastSeen ps heads j i k

module _ (ps : List Point) (a : ℕ) (heads : List ℕ) (t : AreTurning ps a heads) (j : ℕ) (j_in : j < length heads) where
  pub AreSeenFrom-none : AreSeenFrom ps heads j j j []
  AreSeenFrom-none = record {
    each = λ k d l. absurd (omega arith);
    all = λ x l h. let b = h.before in absurd (omega arith);
    from = λ k d l. absurd (omega arith);
    falling = λ k l d m n. absurd (omega arith);
    last = inl (refl, refl);
  }

  -- one more place, which is seen where it is ahead of the last one
  next_seen : (i k : ℕ) → i < j → (k ≢ j → IsAhead ps heads j k i) → ((k ≡ j) × (i + 1 ≡ j)) ⊎ IsLastSeen ps heads j (i + 1) k → IsSeen ps heads i j
  next_seen i k i_j ahead last =
      ⊎_elim
      (λ e. let e1 = e.1 in record { before = i_j; past = λ m up m_in. absurd (omega arith) })
      (λ h. let k_j = h.seen.before in
      let i_k = h.from in
      seen_after ps a heads t j k i j_in h.seen (omega arith) (ahead (λ e. omega arith)) (λ x up x_k. h.behind x (omega arith) x_k))
      last

  pub AreSeenFrom-push : (i k : ℕ) (found : List ℕ) → i < j → (k ≢ j → IsAhead ps heads j k i) → AreSeenFrom ps heads j (i + 1) k found → AreSeenFrom ps heads j i i (found ++ i ∷ [])
  AreSeenFrom-push i k found i_j ahead h =
      let here = next_seen i k i_j ahead h.last in
      record {
        each = All-push (λ x. IsSeen ps heads x j) found i h.each here;
        all = λ x l seen. ⊎_elim
            (λ m. Contains-append_left found (i ∷ []) x (h.all x (omega arith) seen))
            (λ m. let e : i ≡ x = omega arith in subst (λ (y : ℕ). Contains (found ++ i ∷ []) y) e (Contains-push found i))
            (cases_lt i x);
        from = All-push (λ x. i ≤ x) found i (All-weaker (λ x. i + 1 ≤ x) (λ x. i ≤ x) (λ x l. omega arith) found h.from) (omega arith);
        falling = all_pairs_push (λ x y. y < x) found i h.falling (λ s d l. let m = h.from s d l in omega arith);
        last = inr (record { seen = here; from = omega arith; behind = λ x l m. absurd (omega arith) });
      }

  pub AreSeenFrom-skip : (i k : ℕ) (found : List ℕ) → i < j → (¬ (k ≢ j → IsAhead ps heads j k i)) → AreSeenFrom ps heads j (i + 1) k found → AreSeenFrom ps heads j i k found
  AreSeenFrom-skip i k found i_j none h = ⊎_elim
      (λ e. absurd (none (λ differ. absurd (differ e.0))))
      (λ r. let k_j = r.seen.before in let i_k = r.from in record {
        each = h.each;
        all = λ x l seen. ⊎_elim
            (λ m. h.all x (omega arith) seen)
            (λ m. let e : x ≡ i = omega arith in absurd (none (λ _. subst (λ (y : ℕ). IsAhead ps heads j k y) e (seen.past k (omega arith) k_j))))
            (cases_lt i x);
        from = All-weaker (λ x. i + 1 ≤ x) (λ x. i ≤ x) (λ x l. omega arith) found h.from;
        falling = h.falling;
        last = inr (record {
          seen = r.seen;
          from = omega arith;
          behind = λ x l m ahead. ⊎_elim
              (λ up. r.behind x (omega arith) m ahead)
              (λ n. let e : x ≡ i = omega arith in none (λ _. subst (λ (y : ℕ). IsAhead ps heads j k y) e ahead))
              (cases_lt i x);
        });
      })
      h.last

  -- all places before j are passed
  pub AreSeen-passed : (k : ℕ) (found : List ℕ) → AreSeenFrom ps heads j 0 k found → AreSeen ps heads j found
  AreSeen-passed k found h = record { each = h.each; all = λ x seen. h.all x (omega arith) seen; falling = h.falling }
