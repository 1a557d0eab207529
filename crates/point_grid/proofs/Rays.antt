-- What a point sees: the first on each ray.
use Rattle.std.proofs.Common.{◌≡◌, ◌≢◌, ◌⊎◌, ℕ, ◌+◌, ◌<◌, ℤ, pos, ◌≤ℤ◌, ◌<ℤ◌, List, length, slice_index, arith, ap, subst, ⊎_elim}
use Rattle.std.proofs.lemmas.Bool.{cases_lt, cases_order}
use Rattle.std.proofs.lemmas.Int.{ints}
use Rattle.std.proofs.lemmas.List.{get_or_default}
use Rattle.exact_predicates.specs.declared.point.Point.{Point}
use Rattle.exact_predicates.specs.Plane.{orient, IsBetween}
use Rattle.exact_predicates.specs.PointSet.{IsPointSet, point_at}
use Rattle.exact_predicates.proofs.Between.{IsBetween-from_order}
use Rattle.exact_predicates.proofs.HalfPlane.{turn_strict_last}
use Rattle.exact_predicates.proofs.Numbers.{IsOrdered-points, IsBetween-numbers}
use Rattle.exact_predicates.proofs.Orientation.{orient_swapped_last}
use Rattle.point_grid.specs.Directions.{SeesPast, Follows, AreByDirection}

module _ (ps : List Point) (a : ℕ) (order : List ℕ) (v : IsPointSet ps) (a_in : a < length ps) (d : AreByDirection ps a order) where
  -- the point at a place of the order
  abbrev pub at : ℕ → Point
  at k = point_at ps (slice_index order k)

  abbrev pub turn : ℕ → ℕ → ℤ
  turn i j = orient (point_at ps a) (at i) (at j)

  pub follows : (i j : ℕ) → i < j → j < length order → Follows ps a (slice_index order i) (slice_index order j)
  follows i j l j_in = d.sorted i j 0 l j_in

  -- the order names no point twice
  pub apart : (i j : ℕ) → i < j → j < length order → slice_index order i ≢ slice_index order j
  apart i j l j_in same =
      ⊎_elim
      (λ h. let k = subst (λ (x : ℕ). pos 0 <ℤ orient (point_at ps a) (point_at ps x) (at j)) same h in omega (arith, ints, orient_swapped_last (point_at ps a) (at j) (at j)))
      (λ h. omega (arith, h.1))
      (follows i j l j_in)

  -- a sees a point that is turned away from the one before
  pub first_on_ray : (k : ℕ) → k < length order → (k ≡ 0) ⊎ ((m : ℕ) × (m + 1 ≡ k) × (pos 0 <ℤ turn m k)) → SeesPast ps a order (slice_index order k)
  first_on_ray k k_in h i x i_in b =
      let n = d.each k 0 k_in in
      let ni = d.each i 0 i_in in
      let here : IsBetween (point_at ps a) (at k) (at i) = subst (λ (r : ℕ). IsBetween (point_at ps a) (at k) (point_at ps r)) (get_or_default order i x 0 i_in) b in
      let near = IsBetween-numbers ps a (slice_index order k) (slice_index order i) v a_in n.1 ni.1 (λ e. omega (arith, n.0)) here in
      ⊎_elim
      (λ e. omega (arith, near.1, n.0, ap (slice_index order) e))
      (λ c. ⊎_elim
      (λ l. ⊎_elim (λ e. omega arith) (λ w. earlier i k w.0 l w.1 k_in w.2 here.on_line) h)
      (λ l. ⊎_elim (λ t. let on = here.on_line in omega (arith, ints)) (λ t. omega (arith, t.1, near.1, n.0)) (follows k i l i_in))
      c)
      (cases_order i k)
    where
      earlier : (j k m : ℕ) → j < k → m + 1 ≡ k → k < length order → pos 0 <ℤ turn m k → turn k j ≡ pos 0 → ⊥
      earlier j k m l e k_in away on =
          let o = IsOrdered-points ps v in
          let nj = d.each j 0 (omega arith) in
          let nm = d.each m 0 (omega arith) in
          let nk = d.each k 0 k_in in
          let back = orient_swapped_last (point_at ps a) (at k) (at j) in
          ⊎_elim
          (λ s. let weak : pos 0 ≤ℤ turn j m = ⊎_elim (λ t. omega (arith, ints)) (λ t. let t0 = t.0 in omega (arith, ints)) (follows j m s (omega arith)) in
          let strict = turn_strict_last (point_at ps a) (at j) (at m) (at k) (o.rising a _ nj.0 nj.1) (o.rising a _ nm.0 nm.1) (o.rising a _ nk.0 nk.1) weak away in
          omega (arith, ints))
          (λ s. let same : m ≡ j = omega arith in
          let strict = subst (λ (x : ℕ). pos 0 <ℤ turn x k) same away in
          omega (arith, ints))
          (cases_lt j m)

  -- and no other
  pub not_first : (k m : ℕ) → m + 1 ≡ k → k < length order → (¬ (pos 0 <ℤ turn m k)) → ¬ SeesPast ps a order (slice_index order k)
  not_first k m e k_in behind sees =
      let o = IsOrdered-points ps v in
      let nm = d.each m 0 (omega arith) in
      let nk = d.each k 0 k_in in
      ⊎_elim
      behind
      (λ t. let t0 = t.0 in
      sees m 0 (omega arith) (IsBetween-from_order (point_at ps a) (at k) (at m) (o.rising a _ nm.0 nm.1) (o.rising _ _ t.1 nk.1) (omega (arith, ints, orient_swapped_last (point_at ps a) (at m) (at k)))))
      (follows m k (omega arith) k_in)
