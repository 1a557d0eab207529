-- What the sweep has made stays right when a point comes.
use Rattle.std.proofs.Common.{◌≡◌, ℕ, ◌+◌, ◌-◌, ◌<◌, List, ◌++◌, length, take, slice_index, All, Any, Contains, pos, ◌<ℤ◌, arith, ap, sym, subst, ⊎_elim, ◌⊎◌, inl, inr}
use Rattle.std.proofs.lemmas.Int.{ints}
use Rattle.std.proofs.lemmas.Bool.{cases_lt, cases_order}
use Rattle.std.proofs.lemmas.List.{length-append}
use Rattle.std.proofs.lemmas.List.Elements.{Contains-push, All-append, All-weaker}
use Rattle.exact_predicates.specs.declared.point.Point.{Point}
use Rattle.exact_predicates.specs.declared.tri.Tri.{Tri}
use Rattle.exact_predicates.specs.Triangulation.{IsCorner, HasCorners, hit, side_count}
use Rattle.exact_predicates.proofs.Between.{IsBetween-turned}
use Rattle.exact_predicates.proofs.Counts.{side_count-append}
use Rattle.exact_predicates.proofs.Elements.{Any-append_left, Any-append_right, Any-weaker}
use Rattle.exact_predicates.proofs.Orientation.{orient_swapped}
use Rattle.exact_predicates.proofs.Pairs.{hit_turned}
use Rattle.hull_sweep.specs.declared.chain.Chain.{Chain}
use Rattle.hull_sweep.specs.declared.chain.Chain.TheVariants.{Lower, Upper}
use Rattle.hull_sweep.specs.Chain.{turn}
use Rattle.hull_sweep.specs.Join.{HasTriangle, IsEmptyBelow, pair_count}
use Rattle.hull_sweep.specs.Rule.{IsVisiblePair, JoinsVisiblePair}
use Rattle.hull_sweep.specs.Swept.{IsSwept}
use Rattle.hull_sweep.proofs.Chains.{earlier}
use Rattle.hull_sweep.proofs.Emptiness.{all_stay_empty}
use Rattle.hull_sweep.proofs.Joins.{popped}
use Rattle.hull_sweep.proofs.Outlines.{both_same}
use Rattle.hull_sweep.proofs.PairCounts.{pair_count-topped}
use Rattle.hull_sweep.proofs.Rules.{IsSidePair, place_of_side, known_later, corners_low, corners_high}
use Rattle.hull_sweep.proofs.Shapes.{IsStep, shape_step}
use Rattle.hull_sweep.proofs.Tops.{topped, kept_or_popped, length-topped, IsJoined, kept_hidden, IsChain-topped, IsNewest-topped}

-- q is joined to each pair of a chain that is visible from it
joined_visible : {s : Chain} {P : ℕ → Point} {n q : ℕ} {c : List ℕ} {k : ℕ} {added : List Tri} → IsJoined s P n q c k added → (u v : ℕ) → IsSidePair s P q u v
    → turn s (P u) (P v) (P q) <ℤ pos 0 → Any (HasTriangle s u v q) added
joined_visible {s = s} {P = P} {q = q} {k = k} {added = added} j u v p seen =
    let place = place_of_side (earlier j.ahead) j.ahead.chain j.newest u v p in
    let seen' = both_same (λ x y. turn s (P x) (P y) (P q) <ℤ pos 0) (sym place.from) (sym place.to) seen in
    ⊎_elim
    (λ l. let hidden = kept_hidden j place.k l in absurd (omega (arith, ints)))
    (λ l. both_same (λ x y. Any (HasTriangle s x y q) added) place.from place.to (j.join.joined place.k l place.k_in))
    (cases_lt (place.k + 1) k)

module _ {P : ℕ → Point} {n q : ℕ} {c d : List ℕ} {k l : ℕ} {ts xs ys : List Tri} (a : IsStep P n q c d k l ts xs ys) where
  -- what some triangle keeps, some triangle keeps after the step
  of_old : (R : Tri → Type 0) → Any R ts → Any R (ts ++ xs ++ ys)
  of_old R h = Any-append_left R (ts ++ xs) ys (Any-append_left R ts xs h)

  of_low : (R : Tri → Type 0) → Any R xs → Any R (ts ++ xs ++ ys)
  of_low R h = Any-append_left R (ts ++ xs) ys (Any-append_right R ts xs h)

  of_high : (R : Tri → Type 0) → Any R ys → Any R (ts ++ xs ++ ys)
  of_high R h = Any-append_right R (ts ++ xs) ys h

  -- an earlier point stays on a chain, or has become a corner
  covered_before : (x : ℕ) → x < q → Contains (topped c k q) x ⊎ (Contains (topped d l q) x ⊎ Any (λ t. IsCorner t x) (ts ++ xs ++ ys))
  covered_before x x_q =
      ⊎_elim
      (λ low. ⊎_elim
      (λ kept. inl kept)
      (λ (i, k_i, i_in, at_i). inr (inr (of_low (λ t. IsCorner t x) (subst (λ y. Any (λ t. IsCorner t y) xs) at_i (popped a.low.join i k_i i_in)))))
      (kept_or_popped c k q x a.low.join.within low))
      (λ o. ⊎_elim
      (λ high. ⊎_elim
      (λ kept. inr (inl kept))
      (λ (i, l_i, i_in, at_i). inr (inr (of_high (λ t. IsCorner t x) (subst (λ y. Any (λ t. IsCorner t y) ys) at_i (popped a.high.join i l_i i_in)))))
      (kept_or_popped d l q x a.high.join.within high))
      (λ h. inr (inr (of_old (λ t. IsCorner t x) h)))
      o)
      (a.swept.covered x x_q)

  -- q is joined to each pair that is visible from it
  joined_new : (u v : ℕ) → IsVisiblePair P u v q → Any (λ t. HasCorners t v u q) (ts ++ xs ++ ys)
  joined_new u v p =
      let seen = p.visible in
      ⊎_elim
      (λ e. absurd (flat (subst (λ x. IsVisiblePair P u x q) (sym e) p)))
      (λ o. ⊎_elim
      (λ u_v.
      let side : IsSidePair Lower P q u v = record { rising = u_v; known = p.v_earlier; inside = p.none_right; none_between = p.none_between } in
      of_low (λ t. HasCorners t v u q) (Any-weaker (HasTriangle Lower u v q) (λ t. HasCorners t v u q) (corners_low u v q) xs (joined_visible a.low u v side seen)))
      (λ v_u.
      let side : IsSidePair Upper P q v u = record { rising = v_u; known = p.u_earlier; inside = p.none_right; none_between = λ r r_in b. p.none_between r r_in (IsBetween-turned (P v) (P u) (P r) b) } in
      of_high (λ t. HasCorners t v u q) (Any-weaker (HasTriangle Upper v u q) (λ t. HasCorners t v u q) (corners_high v u q) ys (joined_visible a.high v u side seen)))
      o)
      (cases_order u v)
    where
      flat : IsVisiblePair P u u q → ⊥
      flat p = let seen = p.visible in omega (arith, ints, orient_swapped (P u) (P u) (P q))

  joined_all : (u v r : ℕ) → r < q + 1 → IsVisiblePair P u v r → Any (λ t. HasCorners t v u r) (ts ++ xs ++ ys)
  joined_all u v r r_in p =
      ⊎_elim
      (λ r_q. of_old (λ t. HasCorners t v u r) (a.swept.rule.joined u v r r_q p))
      (λ q_r. let e : r ≡ q = omega arith in subst (λ x. Any (λ t. HasCorners t v u x) (ts ++ xs ++ ys)) (sym e) (joined_new u v (subst (λ x. IsVisiblePair P u v x) e p)))
      (cases_lt r q)

  -- what holds of the triangles before the step and of those that it adds
  all_three : (R : Tri → Type 0) → All R ts → All R xs → All R ys → All R (ts ++ xs ++ ys)
  all_three R f g h = All-append R (ts ++ xs) ys (All-append R ts xs f g) h

  -- the sides balance, where i, m, j and m' are the last places kept and there were of the two chains
  balanced : (u v i m j m' : ℕ) → i + 1 ≡ k → m + 1 ≡ length c → j + 1 ≡ l → m' + 1 ≡ length d
      → side_count (ts ++ xs ++ ys) u v + pair_count Lower (slice_index (topped c k q)) (length (topped c k q)) v u + pair_count Upper (slice_index (topped d l q)) (length (topped d l q)) v u
      ≡ side_count (ts ++ xs ++ ys) v u + pair_count Lower (slice_index (topped c k q)) (length (topped c k q)) u v + pair_count Upper (slice_index (topped d l q)) (length (topped d l q)) u v
  balanced u v i m j m' ei em ej em' =
      let wk = a.low.join.within in
      let wl = a.high.join.within in
      let top : slice_index c m ≡ slice_index d m' = omega (arith, a.swept.low_newest m em, a.swept.high_newest m' em') in
      omega (
        arith,
        side_count-append (ts ++ xs) ys u v,
        side_count-append ts xs u v,
        side_count-append (ts ++ xs) ys v u,
        side_count-append ts xs v u,
        a.swept.balance u v,
        a.low.join.balance m i u v ei em,
        a.high.join.balance m' j u v ej em',
        pair_count-topped Lower c k i q u v wk ei,
        pair_count-topped Lower c k i q v u wk ei,
        pair_count-topped Upper d l j q u v wl ej,
        pair_count-topped Upper d l j q v u wl ej,
        ap (λ x. hit u v (x, q)) top,
        ap (λ x. hit v u (x, q)) top,
        hit_turned u v q (slice_index d m'),
        hit_turned v u q (slice_index d m'),
      )

  -- the points up to q are swept
  pub IsSwept-step : IsSwept P (q + 1) (topped c k q) (topped d l q) (ts ++ xs ++ ys)
  IsSwept-step =
      let w = a.swept in
      let wk = a.low.join.within in
      let wl = a.high.join.within in
      record {
        low = IsChain-topped a.low;
        high = IsChain-topped a.high;
        low_newest = IsNewest-topped a.low;
        high_newest = IsNewest-topped a.high;
        shape = shape_step a;
        empty = all_three (IsEmptyBelow P (q + 1)) (all_stay_empty P n q ts a.low.ahead.ordered a.low.ahead.q_in w.empty) a.low.join.empty a.high.join.empty;
        rule = record {
          no_others = all_three (JoinsVisiblePair P (q + 1)) (All-weaker (JoinsVisiblePair P q) (JoinsVisiblePair P (q + 1)) (known_later P q) ts w.rule.no_others) a.low.join.rule a.high.join.rule;
          joined = joined_all;
        };
        count = omega (arith, w.count, a.low.join.count, a.high.join.count, length-append (ts ++ xs) ys, length-append ts xs, length-topped c k q wk, length-topped d l q wl);
        covered = λ x x_in. ⊎_elim
            (λ x_q. covered_before x x_q)
            (λ q_x. let e : q ≡ x = omega arith in inl (subst (Contains (topped c k q)) e (Contains-push (take k c) q)))
            (cases_lt x q);
        balance = λ u v.
            let some_c = w.low.some in
            let some_d = w.high.some in
            let some_k = a.low.join.some in
            let some_l = a.high.join.some in
            balanced u v (k - 1) (length c - 1) (l - 1) (length d - 1) (omega arith) (omega arith) (omega arith) (omega arith);
      }
