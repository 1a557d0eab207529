-- A new point on top of a chain: the chain stays a chain.
use Rattle.std.proofs.Common.{◌≡◌, ℕ, zero, suc, ◌+◌, ◌-◌, ◌<◌, ◌≤◌, List, [], ◌∷◌, ◌++◌, length, take, slice_index, Contains, pos, ◌≤ℤ◌, ◌<ℤ◌, arith, ap, sym, ◌∙◌, subst, ⊎_elim, ◌⊎◌, inl, inr}
use Rattle.std.proofs.lemmas.Int.{ints}
use Rattle.std.proofs.lemmas.Bool.{cases_lt, cases_order}
use Rattle.std.proofs.lemmas.List.{length_push, length-take-le, get_or_append_left, get_or-take, get_or_push, get_or_default}
use Rattle.std.proofs.lemmas.List.Elements.{Contains-get_or}
use Rattle.exact_predicates.specs.declared.point.Point.{Point}
use Rattle.exact_predicates.specs.declared.tri.Tri.{Tri}
use Rattle.hull_sweep.specs.declared.chain.Chain.{Chain}
use Rattle.hull_sweep.specs.Chain.{turn, IsChain, IsHidden, IsNewest}
use Rattle.hull_sweep.specs.Join.{IsJoin}
use Rattle.hull_sweep.proofs.Chains.{IsAhead, pair_order, before_next, hidden_below}
use Rattle.hull_sweep.proofs.Views.{turn_first, turn_last, new_pair_before, new_pair_after}

-- the first k places of a chain, and q on top
abbrev pub topped : List ℕ → ℕ → ℕ → List ℕ
topped c k q = take k c ++ q ∷ []

-- its places
pub kept_at : (c : List ℕ) (k i q : ℕ) → k ≤ length c → i < k → slice_index (topped c k q) i ≡ slice_index c i
kept_at c k i q h l =
    get_or_append_left (take k c) (q ∷ []) 0 i (omega (arith, length-take-le k c h)) ∙ get_or-take k c i 0 l

pub top_at : (c : List ℕ) (k i q : ℕ) → k ≤ length c → i ≡ k → slice_index (topped c k q) i ≡ q
top_at c k i q h e = get_or_push (take k c) q 0 i (length-take-le k c h ∙ sym e)

pub length-topped : (c : List ℕ) (k q : ℕ) → k ≤ length c → length (topped c k q) ≡ k + 1
length-topped c k q h = omega (arith, length_push (take k c) q, length-take-le k c h)

-- a number of the chain is kept, or stood at a place that goes
pub kept_or_popped : (c : List ℕ) (k q x : ℕ) → k ≤ length c → Contains c x → Contains (topped c k q) x ⊎ ((i : ℕ) × (k ≤ i) × (i < length c) × (slice_index c i ≡ x))
kept_or_popped c k q x h (i, i_in, at_i) =
    let at : slice_index c i ≡ x = get_or_default c i 0 x i_in ∙ at_i in
    ⊎_elim
    (λ l. inl (subst (Contains (topped c k q)) (kept_at c k i q h l ∙ at) (Contains-get_or (topped c k q) i 0 (omega (arith, length-topped c k q h)))))
    (λ l. inr (i, l, i_in, at))
    (cases_lt i k)

-- q is joined to the chain c, of which k places stay, by these triangles
pub record IsJoined (s : Chain) (P : ℕ → Point) (n q : ℕ) (c : List ℕ) (k : ℕ) (added : List Tri) : Type 0 where
  pub ahead : IsAhead s P n q (length c) (slice_index c)
  pub newest : IsNewest q c
  pub join : IsJoin s P q c k added
  pub hidden : (i : ℕ) → i + 2 ≡ k → IsHidden s P q (slice_index c) i

module _ {s : Chain} {P : ℕ → Point} {n q : ℕ} {c : List ℕ} {k : ℕ} {added : List Tri} (j : IsJoined s P n q c k added) where
  -- the new pair has those points strictly inside that come after its lower end
  pub after_top : (i r : ℕ) → i + 1 ≡ k → slice_index c i < r → r < q → pos 0 <ℤ turn s (P (slice_index c i)) (P q) (P r)
  after_top i r e above r_in =
      let within = j.join.within in
      ⊎_elim
      (λ l. new_pair_after s (P (slice_index c i)) (P (slice_index c (i + 1))) (P q) (P r)
      (pair_order j.ahead i (omega arith))
      (before_next j.ahead i (omega arith))
      (j.ahead.ordered.rising (slice_index c i) r above (omega (arith, j.ahead.q_in)))
      (j.ahead.chain.inside i r (omega arith) r_in)
      (j.join.seen i e l))
      (λ l. absurd (omega (arith, j.newest i (omega arith))))
      (cases_lt k (length c))

  -- it has those inside that come before its lower end
  before_top : (i r : ℕ) → i + 2 ≡ k → r < slice_index c (i + 1) → pos 0 ≤ℤ turn s (P (slice_index c (i + 1))) (P q) (P r)
  before_top i r e below =
      let within = j.join.within in
      let top_in = j.ahead.chain.known (i + 1) (omega arith) in
      new_pair_before s (P (slice_index c i)) (P (slice_index c (i + 1))) (P q) (P r)
      (pair_order j.ahead i (omega arith))
      (before_next j.ahead (i + 1) (omega arith))
      (j.ahead.ordered.rising r (slice_index c (i + 1)) below (omega (arith, j.ahead.q_in)))
      (j.ahead.chain.inside i r (omega arith) (omega arith))
      (j.hidden i e)

  lower_end : (i r : ℕ) → i + 1 ≡ k → r < slice_index c i → pos 0 ≤ℤ turn s (P (slice_index c i)) (P q) (P r)
  lower_end zero r e below = absurd (omega (arith, j.ahead.chain.first))
  lower_end (suc i) r e below =
      let same : i + 1 ≡ suc i = omega arith in
      subst (λ x. r < slice_index c x → pos 0 ≤ℤ turn s (P (slice_index c x)) (P q) (P r)) same (before_top i r (omega arith)) below

  -- so that it has all points inside
  new_inside : (i r : ℕ) → i + 1 ≡ k → r ≤ q → pos 0 ≤ℤ turn s (P (slice_index c i)) (P q) (P r)
  new_inside i r e r_in =
      ⊎_elim
      (λ is_q. subst (λ x. pos 0 ≤ℤ turn s (P (slice_index c i)) (P q) (P x)) (sym is_q) (omega (arith, ints, turn_last s (P (slice_index c i)) (P q))))
      (λ not_q. ⊎_elim
      (λ r_q. ⊎_elim
      (λ is_low. subst (λ x. pos 0 ≤ℤ turn s (P (slice_index c i)) (P q) (P x)) (sym is_low) (omega (arith, ints, turn_first s (P (slice_index c i)) (P q))))
      (λ not_low. ⊎_elim (λ below. lower_end i r e below) (λ above. let h = after_top i r e above r_q in omega (arith, ints)) not_low)
      (cases_order r (slice_index c i)))
      (λ q_r. absurd (omega arith))
      not_q)
      (cases_order r q)

  -- and a kept pair has q inside
  pub kept_hidden : (i : ℕ) → i + 1 < k → IsHidden s P q (slice_index c) i
  kept_hidden i l =
      let within = j.join.within in
      hidden_below j.ahead i (k - 2) (omega arith) (omega arith) (j.hidden (k - 2) (omega arith))

  topped_chain : IsChain s P (q + 1) (k + 1) (slice_index (topped c k q))
  topped_chain =
      let w = j.join.within in
      let some = j.join.some in
      let chain = j.ahead.chain in
      record {
        some = omega arith;
        first = kept_at c k 0 q w some ∙ chain.first;
        rising = λ i i_in. ⊎_elim
            (λ l. omega (arith, kept_at c k i q w (omega arith), kept_at c k (i + 1) q w l, chain.rising i (omega arith)))
            (λ l. omega (arith, kept_at c k i q w (omega arith), top_at c k (i + 1) q w (omega arith), chain.known i (omega arith)))
            (cases_lt (i + 1) k);
        known = λ i i_in. ⊎_elim
            (λ l. omega (arith, kept_at c k i q w l, chain.known i (omega arith)))
            (λ l. omega (arith, top_at c k i q w (omega arith)))
            (cases_lt i k);
        inside = λ i r i_in r_in. ⊎_elim
            (λ l. rw (kept_at c k i q w (omega arith), kept_at c k (i + 1) q w l) (⊎_elim
            (λ r_q. chain.inside i r (omega arith) r_q)
            (λ q_r. let e : r ≡ q = omega arith in subst (λ x. pos 0 ≤ℤ turn s (P (slice_index c i)) (P (slice_index c (i + 1))) (P x)) (sym e) (kept_hidden i l))
            (cases_lt r q)))
            (λ l. rw (kept_at c k i q w (omega arith), top_at c k (i + 1) q w (omega arith)) (new_inside i r (omega arith) (omega arith)))
            (cases_lt (i + 1) k);
        strict = λ i r i_in. ⊎_elim
            (λ l. rw (kept_at c k i q w (omega arith), kept_at c k (i + 1) q w l) (chain.strict i r (omega arith)))
            (λ l. rw (kept_at c k i q w (omega arith), top_at c k (i + 1) q w (omega arith)) (after_top i r (omega arith)))
            (cases_lt (i + 1) k);
      }

  -- the chain stays a chain
  pub IsChain-topped : IsChain s P (q + 1) (length (topped c k q)) (slice_index (topped c k q))
  IsChain-topped =
      subst (λ x. IsChain s P (q + 1) x (slice_index (topped c k q))) (sym (length-topped c k q j.join.within)) topped_chain

  -- that ends at the newest point
  pub IsNewest-topped : IsNewest (q + 1) (topped c k q)
  IsNewest-topped = λ i e.
      let w = j.join.within in
      ap (λ x. x + 1) (top_at c k i q w (omega (arith, length-topped c k q w)))
