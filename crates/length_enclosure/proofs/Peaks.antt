-- The pairs of a hull that go up stand before its peak.
use Rattle.std.proofs.Common.{◌≡◌, ◌≢◌, ℕ, zero, suc, ◌+◌, ◌<◌, ◌≤◌, IsTrue, eqb, List, length, slice_index, ◌↔◌, arith, subst, ⊎_elim, inl}
use Rattle.std.proofs.lemmas.Bool.{cases_lt}
use Rattle.std.proofs.lemmas.Bool.Decides.{Decides-eqb}
use Rattle.exact_predicates.specs.declared.point.Point.{Point}
use Rattle.exact_predicates.specs.PointSet.{IsPointSet}
use Rattle.exact_predicates.specs.Hull.{IsHullPair, IsHull}
use Rattle.exact_predicates.proofs.Rings.{place_of_pair, pair_of_place}
use Rattle.exact_predicates.proofs.Chains.{falls_on}
use Rattle.length_enclosure.specs.Enclosure.{IsPeak}

-- up to the peak a number is above each before it
pub rises_far : (ring : List ℕ) (top i j : ℕ) → IsPeak ring top → i < j → j ≤ top → slice_index ring i < slice_index ring j
rises_far ring top i zero p l m = absurd (omega arith)
rises_far ring top i (suc j) p l m =
    let e : suc j ≡ j + 1 = omega arith in
    let step = p.rises j (omega arith) in
    ⊎_elim
    (λ k. let before = rises_far ring top i j p k (omega arith) in rw e (omega arith))
    (λ k. let same : j ≡ i = omega arith in subst (λ x. slice_index ring x < slice_index ring (suc j)) same (rw e step))
    (cases_lt i j)

-- where a pair that goes up stands
pub place_of_rising : (hull : List ℕ) (top u v : ℕ) → IsPeak hull top → u < v → IsHullPair hull u v
    → (k : ℕ) × (k < top) × (slice_index hull k ≡ u) × (slice_index hull (k + 1) ≡ v)
place_of_rising hull top u v p up pair =
    let (k, k_in, at_k, next) = place_of_pair hull u v pair in
    ⊎_elim
    (λ n. ⊎_elim
    (λ l. (k, l, at_k, n.1))
    (λ l. absurd (omega (arith, p.falls k l n.0, n.1)))
    (cases_lt k top))
    (λ n. absurd (omega (arith, p.first, n.1)))
    next

-- a number before the peak stands there once, so that the next one decides
pub found : (hull : List ℕ) (top u v k : ℕ) → IsPeak hull top → u < v → k < top → slice_index hull k ≡ u
    → IsTrue (eqb (slice_index hull (k + 1)) v) ↔ IsHullPair hull u v
found hull top u v k p up k_in at_k =
    let d = Decides-eqb (slice_index hull (k + 1)) v in
    let w = p.within in (
      (λ yes. pair_of_place hull u v k (omega arith) at_k (inl (omega arith, d.0 yes))),
      (λ pair. let (j, j_in, at_j, next) = place_of_rising hull top u v p up pair in
          ⊎_elim
          (λ l. absurd (omega (arith, rises_far hull top k j p l (omega arith))))
          (λ m. ⊎_elim
          (λ l. absurd (omega (arith, rises_far hull top j k p l (omega arith))))
          (λ n. let same : j ≡ k = omega arith in d.1 (subst (λ x. slice_index hull (x + 1) ≡ v) same next))
          (cases_lt j k))
          (cases_lt k j)),
    )

pub not_found : (hull : List ℕ) (top u v : ℕ) → IsPeak hull top → u < v → ((k : ℕ) → k < top → slice_index hull k ≢ u) → ¬ IsHullPair hull u v
not_found hull top u v p up none pair =
    let (k, k_in, at_k, next) = place_of_rising hull top u v p up pair in
    none k k_in at_k

-- a hull has a peak where its numbers first stop rising
pub IsPeak-hull : (ps : List Point) (hull : List ℕ) (top : ℕ) → IsPointSet ps → IsHull ps hull → top < length hull
    → ((k : ℕ) → k < top → slice_index hull k < slice_index hull (k + 1))
    → (top + 1 < length hull → slice_index hull (top + 1) ≤ slice_index hull top) → IsPeak hull top
IsPeak-hull ps hull top s h within rises ends =
    record {
      within = within;
      first = h.first;
      rises = rises;
      falls = λ k top_k k_in.
          let apart = h.distinct top (top + 1) 0 (omega arith) (omega arith) in
          let last = ends (omega arith) in
          falls_on ps hull s h top (omega arith) k top_k k_in;
    }
