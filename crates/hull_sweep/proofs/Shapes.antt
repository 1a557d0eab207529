-- The two chains are one list while the points lie on one line, and then meet at their ends alone.
use Rattle.std.proofs.Common.{◌≡◌, ℕ, ◌+◌, ◌-◌, ◌<◌, ◌≤◌, List, length, slice_index, pos, ◌≤ℤ◌, ◌<ℤ◌, arith, ap, sym, ◌∙◌, subst, ⊎_elim, ◌⊎◌, inl, inr}
use Rattle.std.proofs.lemmas.Int.{ints}
use Rattle.std.proofs.lemmas.Bool.{cases_lt, cases_order}
use Rattle.exact_predicates.specs.declared.point.Point.{Point}
use Rattle.exact_predicates.specs.declared.tri.Tri.{Tri}
use Rattle.exact_predicates.specs.Plane.{orient}
use Rattle.exact_predicates.proofs.Line.{orient-on_line}
use Rattle.exact_predicates.proofs.Orientation.{orient_turned, orient_swapped}
use Rattle.hull_sweep.specs.declared.chain.Chain.TheVariants.{Lower, Upper}
use Rattle.hull_sweep.specs.Chain.{turn, IsChain, IsHidden}
use Rattle.hull_sweep.specs.Swept.{MeetAtEnds, IsSwept}
use Rattle.hull_sweep.proofs.Chains.{rises, two_places, two_points, last_place, pair_order, before_next, hidden_below}
use Rattle.hull_sweep.proofs.Tops.{topped, kept_at, top_at, length-topped, IsJoined, after_top}
use Rattle.hull_sweep.proofs.Views.{hidden_both}

-- points for which one list is both chains lie on the line of its first pair
pub one_line : {P : ℕ → Point} {q count : ℕ} {f : ℕ → ℕ} → IsChain Lower P q count f → IsChain Upper P q count f
    → 2 ≤ count → (r : ℕ) → r < q → orient (P (f 0)) (P (f 1)) (P r) ≡ pos 0
one_line {P = P} {f = f} low high two r r_in =
    let left = low.inside 0 r two r_in in
    let right = high.inside 0 r two r_in in
    omega (arith, ints, orient_swapped (P (f 0)) (P (f 1)) (P r))

-- One step of the sweep: q is joined to the lower chain c, of which k places stay, by the triangles xs, and to the upper chain
-- d, of which l places stay, by the triangles ys.
pub record IsStep (P : ℕ → Point) (n q : ℕ) (c d : List ℕ) (k l : ℕ) (ts xs ys : List Tri) : Type 0 where
  pub swept : IsSwept P q c d ts
  pub low : IsJoined Lower P n q c k xs
  pub high : IsJoined Upper P n q d l ys

module _ {P : ℕ → Point} {n q : ℕ} {c d : List ℕ} {k l : ℕ} {ts xs ys : List Tri} (a : IsStep P n q c d k l ts xs ys) where
  -- not both chains lose all but point 0
  not_both_bare : 2 ≤ q → 3 ≤ k + l
  not_both_bare two =
      let some_k = a.low.join.some in
      let some_l = a.high.join.some in
      ⊎_elim (λ bare. absurd (contrary (omega arith) (omega arith))) (λ h. h) (cases_lt (k + l) 3)
    where
      contrary : k ≡ 1 → l ≡ 1 → ⊥
      contrary e f =
          let low = after_top a.low 0 1 (omega arith) (omega (arith, a.swept.low.first)) (omega arith) in
          let high = after_top a.high 0 1 (omega arith) (omega (arith, a.swept.high.first)) (omega arith) in
          let low' : pos 0 <ℤ turn Lower (P 0) (P q) (P 1) = subst (λ x. pos 0 <ℤ turn Lower (P x) (P q) (P 1)) a.swept.low.first low in
          let high' : pos 0 <ℤ turn Upper (P 0) (P q) (P 1) = subst (λ x. pos 0 <ℤ turn Upper (P x) (P q) (P 1)) a.swept.high.first high in
          omega (arith, ints, orient_swapped (P 0) (P q) (P 1))

  -- where the kept places have point 0 alone in common, the new chains meet at their ends alone
  meet_at_ends : 2 ≤ q → ((i j : ℕ) → i < k → j < l → slice_index c i ≡ slice_index d j → slice_index c i ≡ 0) → MeetAtEnds (q + 1) (topped c k q) (topped d l q)
  meet_at_ends two both =
      let wk = a.low.join.within in
      let wl = a.high.join.within in
      record {
        ends = λ i j i_in j_in e. ⊎_elim
            (λ i_k. ⊎_elim
            (λ j_l. inl (kept_at c k i q wk i_k ∙ both i j i_k j_l (sym (kept_at c k i q wk i_k) ∙ (e ∙ kept_at d l j q wl j_l))))
            (λ l_j. absurd (omega (arith, kept_at c k i q wk i_k, a.swept.low.known i (omega arith), e, top_at d l j q wl (omega (arith, length-topped d l q wl)))))
            (cases_lt j l))
            (λ k_i. inr (ap (λ x. x + 1) (top_at c k i q wk (omega (arith, length-topped c k q wk)))))
            (cases_lt i k);
        five = omega (arith, length-topped c k q wk, length-topped d l q wl, not_both_bare two);
      }

  -- where the last pairs of both chains are hidden from q, they have the same lower end
  one_below_top : (i j : ℕ) → i + 1 < length c → j + 1 < length d → slice_index c (i + 1) ≡ slice_index d (j + 1)
      → IsHidden Lower P q (slice_index c) i → IsHidden Upper P q (slice_index d) j → slice_index c i ≡ slice_index d j
  one_below_top i j i_in j_in top h g =
      let low = a.swept.low in
      let high = a.swept.high in
      let x = slice_index c i in
      let y = slice_index d j in
      let m = slice_index c (i + 1) in
      let x_m = low.rising i i_in in
      let y_m = high.rising j j_in in
      let m_in = low.known (i + 1) i_in in
      let y_before : y < m = omega (arith, top) in
      let g' : pos 0 ≤ℤ turn Upper (P y) (P m) (P q) = subst (λ z. pos 0 ≤ℤ turn Upper (P y) (P z) (P q)) (sym top) g in
      let flat = hidden_both (P x) (P y) (P m) (P q)
      (pair_order a.low.ahead i i_in)
      (a.low.ahead.ordered.rising y m y_before (omega (arith, a.low.ahead.q_in)))
      (before_next a.low.ahead (i + 1) i_in)
      h g' (low.inside i y i_in (omega arith)) in
      ⊎_elim
      (λ e. e)
      (λ o. ⊎_elim
      (λ x_y. let s = low.strict i y i_in x_y y_before in absurd (omega (arith, ints)))
      (λ y_x.
      let s = high.strict j x j_in y_x (omega (arith, top)) in
      let s' : pos 0 <ℤ turn Upper (P y) (P m) (P x) = subst (λ z. pos 0 <ℤ turn Upper (P y) (P z) (P x)) (sym top) s in
      absurd (omega (arith, ints, orient_turned (P x) (P m) (P y))))
      o)
      (cases_order x y)

  -- chains that meet at their ends alone go on so
  stay_apart : MeetAtEnds q c d → MeetAtEnds (q + 1) (topped c k q) (topped d l q)
  stay_apart apart = meet_at_ends two both
    where
      two : 2 ≤ q
      two = ⊎_elim
          (λ short. let five = apart.five in two_points a.swept.high (omega arith))
          (λ long. two_points a.swept.low long)
          (cases_lt (length c) 2)

      -- q does not leave both chains whole
      top_of_both : k ≡ length c → l ≡ length d → ⊥
      top_of_both ek el =
          let low = a.swept.low in
          let high = a.swept.high in
          let c2 = two_places low a.swept.low_newest two in
          let d2 = two_places high a.swept.high_newest two in
          let i = length c - 2 in
          let j = length d - 2 in
          let top : slice_index c (i + 1) ≡ slice_index d (j + 1) = omega (arith, a.swept.low_newest (i + 1) (omega arith), a.swept.high_newest (j + 1) (omega arith)) in
          let below = one_below_top i j (omega arith) (omega arith) top (a.low.hidden i (omega arith)) (a.high.hidden j (omega arith)) in
          ⊎_elim
          (λ z. ⊎_elim
          (λ m. omega (arith, rises low 0 i m (omega arith), low.first))
          (λ m. ⊎_elim
          (λ m'. omega (arith, rises high 0 j m' (omega arith), high.first))
          (λ m'. let five = apart.five in omega arith)
          (cases_lt 0 j))
          (cases_lt 0 i))
          (λ m. omega (arith, low.rising i (omega arith), a.swept.low_newest (i + 1) (omega arith)))
          (apart.ends i j (omega arith) (omega arith) below)

      both : (i j : ℕ) → i < k → j < l → slice_index c i ≡ slice_index d j → slice_index c i ≡ 0
      both i j i_k j_l e =
          let wk = a.low.join.within in
          let wl = a.high.join.within in
          ⊎_elim
          (λ z. z)
          (λ m. absurd (top_of_both
          (omega (arith, last_place a.swept.low a.swept.low_newest i (omega arith) m))
          (omega (arith, last_place a.swept.high a.swept.high_newest j (omega arith) (omega (arith, e, m))))))
          (apart.ends i j (omega arith) (omega arith) e)

-- where one list is both chains
module _ {P : ℕ → Point} {n q : ℕ} {c : List ℕ} {k l : ℕ} {ts xs ys : List Tri} (a : IsStep P n q c c k l ts xs ys) where
  -- q leaves one of them point 0 alone, and the chains part
  parts : 2 ≤ length c → (k ≡ 1) ⊎ (l ≡ 1) → MeetAtEnds (q + 1) (topped c k q) (topped c l q)
  parts long one = meet_at_ends a (two_points a.swept.low long) both
    where
      both : (i j : ℕ) → i < k → j < l → slice_index c i ≡ slice_index c j → slice_index c i ≡ 0
      both i j i_k j_l e =
          ⊎_elim
          (λ f. let z : i ≡ 0 = omega arith in ap (slice_index c) z ∙ a.swept.low.first)
          (λ f. let z : j ≡ 0 = omega arith in e ∙ (ap (slice_index c) z ∙ a.swept.low.first))
          one

  -- or it leaves both two places, since it lies on their line, and then all
  both_keep : 2 ≤ k → 2 ≤ l → (k ≡ length c) × (l ≡ length c)
  both_keep two_k two_l =
      let wk = a.low.join.within in
      let wl = a.high.join.within in
      let f = slice_index c in
      let h : IsHidden Lower P q f 0 = hidden_below a.low.ahead 0 (k - 2) (omega arith) (omega arith) (a.low.hidden (k - 2) (omega arith)) in
      let g : IsHidden Upper P q f 0 = hidden_below a.high.ahead 0 (l - 2) (omega arith) (omega arith) (a.high.hidden (l - 2) (omega arith)) in
      let on : orient (P (f 0)) (P (f 1)) (P q) ≡ pos 0 = omega (arith, ints, orient_swapped (P (f 0)) (P (f 1)) (P q)) in (
        ⊎_elim (λ m. absurd (not_seen on (k - 1) (omega arith) (inl (a.low.join.seen (k - 1) (omega arith) m)))) (λ m. omega arith) (cases_lt k (length c)),
        ⊎_elim (λ m. absurd (not_seen on (l - 1) (omega arith) (inr (a.high.join.seen (l - 1) (omega arith) m)))) (λ m. omega arith) (cases_lt l (length c)),
      )
    where
      not_seen : orient (P (slice_index c 0)) (P (slice_index c 1)) (P q) ≡ pos 0 → (i : ℕ) → i + 1 < length c
          → (turn Lower (P (slice_index c i)) (P (slice_index c (i + 1))) (P q) <ℤ pos 0) ⊎ (turn Upper (P (slice_index c i)) (P (slice_index c (i + 1))) (P q) <ℤ pos 0) → ⊥
      not_seen on i i_in h =
          let low = a.swept.low in
          let line : (x : ℕ) → x < q → orient (P (slice_index c 0)) (P (slice_index c 1)) (P x) ≡ pos 0 = one_line low a.swept.high (omega arith) in
          let flat = orient-on_line (P (slice_index c 0)) (P (slice_index c 1)) (P (slice_index c i)) (P (slice_index c (i + 1))) (P q)
          (pair_order a.low.ahead 0 (omega arith))
          (line (slice_index c i) (low.known i (omega arith)))
          (line (slice_index c (i + 1)) (low.known (i + 1) i_in))
          on in
          ⊎_elim (λ s. omega (arith, ints)) (λ s. omega (arith, ints, orient_swapped (P (slice_index c i)) (P (slice_index c (i + 1))) (P q))) h

  flat_step : (topped c k q ≡ topped c l q) ⊎ MeetAtEnds (q + 1) (topped c k q) (topped c l q)
  flat_step =
      let some_k = a.low.join.some in
      let some_l = a.high.join.some in
      let wk = a.low.join.within in
      let wl = a.high.join.within in
      ⊎_elim
      (λ short. let same : k ≡ l = omega arith in inl (ap (λ x. topped c x q) same))
      (λ long. ⊎_elim
      (λ k_1. inr (parts long (inl (omega arith))))
      (λ k_2. ⊎_elim
      (λ l_1. inr (parts long (inr (omega arith))))
      (λ l_2. let b = both_keep k_2 l_2 in inl (ap (λ x. topped c x q) (b.0 ∙ sym b.1)))
      (cases_lt l 2))
      (cases_lt k 2))
      (cases_lt (length c) 2)

-- the chains after a step are one list or meet at their ends alone
pub shape_step : {P : ℕ → Point} {n q : ℕ} {c d : List ℕ} {k l : ℕ} {ts xs ys : List Tri} → IsStep P n q c d k l ts xs ys
    → (topped c k q ≡ topped d l q) ⊎ MeetAtEnds (q + 1) (topped c k q) (topped d l q)
shape_step {P = P} {n = n} {q = q} {c = c} {d = d} {k = k} {l = l} {ts = ts} {xs = xs} {ys = ys} a =
    ⊎_elim
    (λ e. subst (λ x. IsStep P n q c x k l ts xs ys → (topped c k q ≡ topped x l q) ⊎ MeetAtEnds (q + 1) (topped c k q) (topped x l q)) e (λ b. flat_step b) a)
    (λ apart. inr (stay_apart a apart))
    a.swept.shape
