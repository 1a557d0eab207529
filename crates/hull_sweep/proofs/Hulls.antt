-- What the two chains make is the hull.
use Rattle.std.proofs.Common.{◌≢◌, ℕ, ◌+◌, ◌-◌, ◌<◌, List, length, slice_index, pos, ◌≤ℤ◌, arith, ap, sym, ◌∙◌, ⊎_elim}
use Rattle.std.proofs.lemmas.List.{get_or_default}
use Rattle.std.proofs.lemmas.List.Elements.{All-from_get_or}
use Rattle.exact_predicates.specs.declared.point.Point.{Point}
use Rattle.exact_predicates.specs.declared.tri.Tri.{Tri}
use Rattle.exact_predicates.specs.Hull.{IsHullPair, IsHull}
use Rattle.exact_predicates.specs.Plane.{orient, IsBetween}
use Rattle.exact_predicates.specs.PointSet.{point_at}
use Rattle.exact_predicates.proofs.Between.{IsBetween-turned}
use Rattle.hull_sweep.proofs.Chains.{rises, none_on_pair}
use Rattle.hull_sweep.proofs.Outlines.{IsClosed, place, chain_pair, both_same}

module _ {P : ℕ → Point} {n : ℕ} {c d h : List ℕ} {ts : List Tri} (o : IsClosed P n c d h ts) where
  -- no point lies to the right of a pair
  pub none_right : (u v r : ℕ) → IsHullPair h u v → r < n → pos 0 ≤ℤ orient (P u) (P v) (P r)
  none_right u v r pair r_in =
      ⊎_elim
      (λ p. both_same (λ x y. pos 0 ≤ℤ orient (P x) (P y) (P r)) p.from p.to (o.swept.low.inside p.i r p.i_in r_in))
      (λ p. both_same (λ x y. pos 0 ≤ℤ orient (P y) (P x) (P r)) p.from p.to (o.swept.high.inside p.i r p.i_in r_in))
      (chain_pair o u v pair)

  -- or between its ends
  none_between : (u v r : ℕ) → IsHullPair h u v → r < n → ¬ IsBetween (P u) (P v) (P r)
  none_between u v r pair r_in b =
      ⊎_elim
      (λ p. none_on_pair o.ordered o.swept.low p.i r p.i_in r_in (both_same (λ x y. IsBetween (P x) (P y) (P r)) (sym p.from) (sym p.to) b))
      (λ p. none_on_pair o.ordered o.swept.high p.i r p.i_in r_in (both_same (λ x y. IsBetween (P x) (P y) (P r)) (sym p.from) (sym p.to) (IsBetween-turned (P u) (P v) (P r) b)))
      (chain_pair o u v pair)

  -- the inner places of the upper chain are none of the lower chain
  inner_apart : (k i : ℕ) → k < length c → 0 < i → i + 1 < length d → slice_index c k ≢ slice_index d i
  inner_apart k i k_in i_pos i_in e =
      let high = o.swept.high in
      let above = rises high 0 i i_pos (omega arith) in
      let below = rises high i (length d - 1) (omega arith) (omega arith) in
      ⊎_elim
      (λ z. omega (arith, above, high.first, e, z))
      (λ z. omega (arith, below, o.swept.high_newest (length d - 1) (omega arith), e, z))
      (o.apart.ends k i k_in (omega arith) e)

  -- no number stands at two places
  distinct : (k l : ℕ) → k < l → l < length h → slice_index h k ≢ slice_index h l
  distinct k l k_l l_in e =
      ⊎_elim
      (λ k_low. ⊎_elim
      (λ l_low. omega (arith, rises o.swept.low k l k_l l_low, o.outline.up k k_low, o.outline.up l l_low, e))
      (λ (i, j, f, i_pos, at_i). inner_apart k i k_low i_pos (omega arith) (sym (o.outline.up k k_low) ∙ (e ∙ (ap (slice_index h) f ∙ o.outline.down i j i_pos at_i))))
      (place o l l_in))
      (λ (i, j, f, i_pos, at_i). ⊎_elim
      (λ l_low. omega arith)
      (λ (i', j', f', i_pos', at_i').
      omega (arith, rises o.swept.high i' i (omega arith) (omega arith), ap (slice_index h) f ∙ o.outline.down i j i_pos at_i, ap (slice_index h) f' ∙ o.outline.down i' j' i_pos' at_i', e))
      (place o l l_in))
      (place o k (omega arith))

  known : (k : ℕ) → k < length h → slice_index h k < n
  known k k_in =
      ⊎_elim
      (λ low. omega (arith, o.outline.up k low, o.swept.low.known k low))
      (λ (i, j, f, i_pos, at_i). omega (arith, ap (slice_index h) f ∙ o.outline.down i j i_pos at_i, o.swept.high.known i (omega arith)))
      (place o k k_in)

-- the outline is the hull
pub IsHull-closed : {ps : List Point} {c d h : List ℕ} {ts : List Tri} → IsClosed (point_at ps) (length ps) c d h ts → IsHull ps h
IsHull-closed {ps = ps} {h = h} o =
    record {
      three = omega (arith, o.outline.size, o.apart.five);
      first = o.outline.up 0 o.swept.low.some ∙ o.swept.low.first;
      within = All-from_get_or (λ u. u < length ps) h 0 (known o);
      distinct = λ i j e i_j j_in f. distinct o i j i_j j_in (get_or_default h i 0 e (omega arith) ∙ (f ∙ get_or_default h j e 0 j_in));
      none_right = none_right o;
      none_between = none_between o;
    }
