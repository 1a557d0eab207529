-- The pairs of the hull are the pairs of the two chains.
use Rattle.std.proofs.Common.{◌≡◌, ℕ, ◌+◌, ◌-◌, ◌<◌, ◌≤◌, List, length, slice_index, arith, ap, sym, ◌∙◌, refl, subst, ⊎_elim, ◌⊎◌, inl, inr}
use Rattle.std.proofs.lemmas.Bool.{cases_lt}
use Rattle.exact_predicates.specs.declared.point.Point.{Point}
use Rattle.exact_predicates.specs.declared.tri.Tri.{Tri}
use Rattle.exact_predicates.specs.Hull.{IsHullPair}
use Rattle.exact_predicates.proofs.Numbers.{IsOrdered}
use Rattle.exact_predicates.proofs.Rings.{IsNext, place_of_pair, pair_of_place}
use Rattle.hull_sweep.specs.Swept.{MeetAtEnds, IsSwept, IsOutline}
use Rattle.hull_sweep.proofs.Chains.{two_places}

-- two chains over all points that meet at their ends alone, and the hull made of them
pub record IsClosed (P : ℕ → Point) (n : ℕ) (c d h : List ℕ) (ts : List Tri) : Type 0 where
  pub ordered : IsOrdered P n
  pub enough : 3 ≤ n
  pub swept : IsSwept P n c d ts
  pub apart : MeetAtEnds n c d
  pub outline : IsOutline c d h

-- u and v are a pair of a chain
pub record IsChainPair (c : List ℕ) (u v : ℕ) : Type 0 where
  pub i : ℕ
  pub i_in : i + 1 < length c
  pub from : slice_index c i ≡ u
  pub to : slice_index c (i + 1) ≡ v

-- what holds of two numbers holds of two that are equal to them
pub both_same : (R : ℕ → ℕ → Type 0) {x y u v : ℕ} → x ≡ u → y ≡ v → R x y → R u v
both_same R {x = x} {v = v} e f h = subst (λ z. R z v) e (subst (λ z. R x z) f h)

module _ {P : ℕ → Point} {n : ℕ} {c d h : List ℕ} {ts : List Tri} (o : IsClosed P n c d h ts) where
  -- both chains have two places
  pub lower_two : 2 ≤ length c
  lower_two = two_places o.swept.low o.swept.low_newest (omega (arith, o.enough))

  pub upper_two : 2 ≤ length d
  upper_two = two_places o.swept.high o.swept.high_newest (omega (arith, o.enough))

  -- the newest point is on top of both
  same_top : (i j : ℕ) → i + 1 ≡ length c → j + 1 ≡ length d → slice_index c i ≡ slice_index d j
  same_top i j e f = omega (arith, o.swept.low_newest i e, o.swept.high_newest j f)

  -- and point 0 is the first of both
  same_bottom : slice_index h 0 ≡ slice_index d 0
  same_bottom = o.outline.up 0 o.swept.low.some ∙ (o.swept.low.first ∙ sym o.swept.high.first)

  -- a place of the hull is one of the lower chain, or an inner one of the upper chain
  pub place : (k : ℕ) → k < length h → (k < length c) ⊎ ((i : ℕ) × (j : ℕ) × (k ≡ length c + j) × (0 < i) × (i + j + 2 ≡ length d))
  place k k_in =
      ⊎_elim
      (λ l. inl l)
      (λ l. let size = o.outline.size in
      inr (length d - 2 - (k - length c), k - length c, omega arith, omega arith, omega arith))
      (cases_lt k (length c))

  -- a pair of the hull is one of the lower chain, or one of the upper chain turned round
  pub chain_pair : (u v : ℕ) → IsHullPair h u v → IsChainPair c u v ⊎ IsChainPair d v u
  chain_pair u v pair =
      let (k, k_in, at_k, next) = place_of_pair h u v pair in
      ⊎_elim
      (λ below. ⊎_elim
      (λ more. inl (record { i = k; i_in = more; from = sym (o.outline.up k below) ∙ at_k; to = sym (o.outline.up (k + 1) more) ∙ after k v (omega (arith, o.outline.size, upper_two)) next }))
      (λ top. inr (at_top k below (omega arith) at_k next))
      (cases_lt (k + 1) (length c)))
      (λ (i, j, e, i_pos, place). inr (above k i j e i_pos place at_k next))
      (place k k_in)
    where
      after : (k v : ℕ) → k + 1 < length h → IsNext h k v → slice_index h (k + 1) ≡ v
      after k v l next = ⊎_elim (λ a. a.1) (λ a. absurd (omega (arith, a.0))) next

      wraps : (k v : ℕ) → k + 1 ≡ length h → IsNext h k v → slice_index h 0 ≡ v
      wraps k v l next = ⊎_elim (λ a. absurd (omega (arith, a.0))) (λ a. a.1) next

      -- from the top of the lower chain down to the place below the top of the upper one
      at_top : (k : ℕ) → k < length c → k + 1 ≡ length c → slice_index h k ≡ u → IsNext h k v → IsChainPair d v u
      at_top k below top at_k next =
          let i = length d - 2 in
          let size = o.outline.size in
          let two = upper_two in
          record {
            i = i;
            i_in = omega arith;
            from = ⊎_elim
                (λ inner. let e : length c + 0 ≡ k + 1 = omega arith in sym (o.outline.down i 0 inner (omega arith)) ∙ (ap (slice_index h) e ∙ after k v (omega arith) next))
                (λ bare. let e : i ≡ 0 = omega arith in ap (slice_index d) e ∙ (sym same_bottom ∙ wraps k v (omega arith) next))
                (cases_lt 0 i);
            to = sym (same_top k (i + 1) top (omega arith)) ∙ (sym (o.outline.up k below) ∙ at_k);
          }

      -- from an inner place of the upper chain down to the one below it
      above : (k i j : ℕ) → k ≡ length c + j → 0 < i → i + j + 2 ≡ length d → slice_index h k ≡ u → IsNext h k v → IsChainPair d v u
      above k i j e i_pos place at_k next =
          let size = o.outline.size in
          let two = upper_two in
          let back : i - 1 + 1 ≡ i = omega arith in
          record {
            i = i - 1;
            i_in = omega arith;
            from = ⊎_elim
                (λ inner. let f : length c + (j + 1) ≡ k + 1 = omega arith in sym (o.outline.down (i - 1) (j + 1) inner (omega arith)) ∙ (ap (slice_index h) f ∙ after k v (omega arith) next))
                (λ bare. let f : i - 1 ≡ 0 = omega arith in ap (slice_index d) f ∙ (sym same_bottom ∙ wraps k v (omega arith) next))
                (cases_lt 0 (i - 1));
            to = ap (slice_index d) back ∙ (sym (o.outline.down i j i_pos place) ∙ (ap (slice_index h) (sym e) ∙ at_k));
          }

  -- each pair of the lower chain is one of the hull
  pub pair_of_low : (i : ℕ) → i + 1 < length c → IsHullPair h (slice_index c i) (slice_index c (i + 1))
  pair_of_low i i_in =
      let two = upper_two in
      let size = o.outline.size in
      pair_of_place h _ _ i (omega arith) (o.outline.up i (omega arith)) (inl (omega arith, o.outline.up (i + 1) i_in))

  -- and so is each pair of the upper chain, turned round
  pub pair_of_high : (i : ℕ) → i + 1 < length d → IsHullPair h (slice_index d (i + 1)) (slice_index d i)
  pair_of_high i i_in =
      let two = lower_two in
      let size = o.outline.size in
      ⊎_elim
      (λ inner.
      let j = length d - 3 - i in
      pair_of_place h _ _ (length c + j) (omega arith) (o.outline.down (i + 1) j (omega arith) (omega arith)) (next (length c + j) j (omega arith) refl))
      (λ top.
      let k = length c - 1 in
      pair_of_place h _ _ k (omega arith) (o.outline.up k (omega arith) ∙ same_top k (i + 1) (omega arith) (omega arith)) (next_top k (omega arith) (omega arith)))
      (cases_lt (i + 2) (length d))
    where
      next : (k j : ℕ) → i + j + 3 ≡ length d → k ≡ length c + j → IsNext h k (slice_index d i)
      next k j e f =
          let size = o.outline.size in
          ⊎_elim
          (λ inner. let g : k + 1 ≡ length c + (j + 1) = omega arith in inl (omega arith, ap (slice_index h) g ∙ o.outline.down i (j + 1) inner (omega arith)))
          (λ bare. let g : 0 ≡ i = omega arith in inr (omega arith, same_bottom ∙ ap (slice_index d) g))
          (cases_lt 0 i)

      next_top : (k : ℕ) → i + 2 ≡ length d → k + 1 ≡ length c → IsNext h k (slice_index d i)
      next_top k e f =
          let size = o.outline.size in
          ⊎_elim
          (λ inner. let g : k + 1 ≡ length c + 0 = omega arith in inl (omega arith, ap (slice_index h) g ∙ o.outline.down i 0 inner (omega arith)))
          (λ bare. let g : 0 ≡ i = omega arith in inr (omega arith, same_bottom ∙ ap (slice_index d) g))
          (cases_lt 0 i)
