-- A step under a point q of the disc goes round q: it is a step of the walk to q, and q lies between its ends along the edge.
use Rattle.std.proofs.Common.{pos, ◌≤ℤ◌, ◌<ℤ◌, arith, sym, subst, ⊎_elim, inl, inr}
use Rattle.std.proofs.lemmas.Int.{ints, by_lt_z}
use Rattle.exact_predicates.specs.declared.point.Point.{Point}
use Rattle.exact_predicates.specs.Plane.{orient, IsInLeftDiamond}
use Rattle.exact_predicates.proofs.Blocking.{dot_parts}
use Rattle.exact_predicates.proofs.IntSigns.{mul-nonneg, mul-pos}
use Rattle.exact_predicates.proofs.Orientation.{orient_turned, orient_swapped, orient_swapped_last, orient_return}
use Rattle.diamond_theorem.specs.Discs.{IsInDisc}
use Rattle.diamond_theorem.specs.Laws.{StepsGoRound}
use Rattle.diamond_theorem.specs.Steps.{IsOnLeft, IsOnRight, IsStep, IsRound}
use Rattle.diamond_theorem.proofs.Axis.{along, orient_along, dot_start}
use Rattle.diamond_theorem.proofs.Discs.{diamond_in_disc, disc_between, disc_convex, power_start}
use Rattle.diamond_theorem.proofs.Mirror.{mirror, orient_mirror, power_mirror, along_mirror, IsInLeftDiamond-mirror, IsStep-mirror}
use Rattle.diamond_theorem.proofs.Along.{base_positive, left_before, right_after}
use Rattle.diamond_theorem.proofs.Signs.{mul-nonpos, mul-neg, mul-both_nonpos, mul-both_neg, neg-from-neg, pos-from-neg, pos-from-pos}

-- a step of the walk to p, with no end in the disc, that has the point q of the disc on its left
pub record IsUnder (a b p q l r : Point) : Type 0 where
  pub diamond : IsInLeftDiamond a b p
  pub step : IsStep a b p l r
  pub l_out : ¬ IsInDisc a b l
  pub r_out : ¬ IsInDisc a b r
  pub q_in : IsInDisc a b q
  pub ahead : pos 0 <ℤ orient l r q

pub IsUnder-mirror : (a b p q l r : Point) → IsUnder a b p q l r → IsUnder (mirror b) (mirror a) (mirror p) (mirror q) (mirror r) (mirror l)
IsUnder-mirror a b p q l r u =
    record {
      diamond = IsInLeftDiamond-mirror a b p u.diamond;
      step = IsStep-mirror a b p l r u.step;
      l_out = rw (power_mirror a b r) u.r_out;
      r_out = rw (power_mirror a b l) u.l_out;
      q_in = rw (power_mirror a b q) u.q_in;
      ahead = rw (orient_mirror l r q) u.ahead;
    }

-- q does not lie before a left end that is not a: else that end would be in the triangle a, p, q, so in the disc
left_in_disc : (a b p q l r : Point) → IsUnder a b p q l r → pos 0 <ℤ orient a p l → along a b l q ≤ℤ pos 0 → IsInDisc a b l
left_in_disc a b p q l r u apl behind =
    let s = u.step in
    let turn = u.ahead in
    let p_ahead = s.ahead in
    let p_in = diamond_in_disc a b p u.diamond in
    let (q_after, q_before) = disc_between a b q (base_positive a b p u.diamond) u.q_in in
    let lp = left_before a b p l u.diamond s.left in
    let pr = right_after a b p r u.diamond s.right in
    let n1 = mul-both_nonpos (along a b l q) (orient l p r) behind (omega (arith, ints, orient_swapped_last l r p)) in
    let n2 = mul-neg (along a b l p) (orient l q r) lp (omega (arith, ints, orient_swapped_last l r q)) in
    let lpq = pos-from-pos (along a b l r) (orient l p q) (omega (arith, ints)) (omega (arith, ints, orient_along a b l p q r)) in
    let n3 = mul-both_neg (along a b l a) (orient l q p) (omega (arith, ints, dot_start a b)) (omega (arith, ints, orient_swapped_last l p q)) in
    let n4 = mul-nonpos (orient l a p) (along a b l q) (omega (arith, ints, orient_turned l a p)) behind in
    let lqa = pos-from-pos (along a b l p) (orient l q a) (omega (arith, ints)) (omega (arith, ints, orient_along a b l q a p)) in
    disc_convex a b a p q l (omega (arith, ints, power_start a b)) (omega (arith, ints)) u.q_in
    (record { left_of_ab = omega (arith, ints); left_of_bc = omega (arith, ints, orient_turned l p q); left_of_ca = omega (arith, ints, orient_turned l q a) })
    apl

-- q lies after the left end, along the edge
pub under_after : (a b p q l r : Point) → IsUnder a b p q l r → pos 0 <ℤ along a b l q
under_after a b p q l r u =
    let s = u.step in
    let (q_after, q_before) = disc_between a b q (base_positive a b p u.diamond) u.q_in in
    ⊎_elim
    (λ e. subst (λ z. pos 0 <ℤ along a b z q) (sym e) (omega (arith, ints, dot_start a b)))
    (λ d. by_lt_z (pos 0) (along a b l q) (λ h. h) (λ h. absurd (u.l_out (left_in_disc a b p q l r u d.0 h))))
    s.left

-- and before the right one
pub under_before : (a b p q l r : Point) → IsUnder a b p q l r → pos 0 <ℤ along a b q r
under_before a b p q l r u =
    rw (along_mirror a b r q) at (under_after (mirror b) (mirror a) (mirror p) (mirror q) (mirror r) (mirror l) (IsUnder-mirror a b p q l r u))

-- a left end that is not a lies strictly to the left of the line from a to q: else it would be in the triangle a, p, q
left_above : (a b p q l r : Point) → IsUnder a b p q l r → pos 0 <ℤ orient a p l → pos 0 <ℤ orient a q l
left_above a b p q l r u apl =
    let s = u.step in
    let turn = u.ahead in
    let p_in = diamond_in_disc a b p u.diamond in
    let lp = left_before a b p l u.diamond s.left in
    let pr = right_after a b p r u.diamond s.right in
    let after = under_after a b p q l r u in
    let behind = s.a_behind in
    by_lt_z (pos 0) (orient a q l)
    (λ h. h)
    (λ h. by_lt_z (pos 0) (along a b l a)
    (λ a_after.
    let n1 = mul-nonneg (along a b l q) (orient l a r) (omega (arith, ints)) (omega (arith, ints, orient_swapped_last l r a)) in
    let n2 = mul-neg (along a b l a) (orient l q r) a_after (omega (arith, ints, orient_swapped_last l r q)) in
    let g = pos-from-pos (along a b l r) (orient l a q) (omega (arith, ints)) (omega (arith, ints, orient_along a b l a q r)) in
    omega (arith, ints, orient_turned l a q))
    (λ a_before.
    let n1 = mul-neg (along a b l q) (orient l p a) after (omega (arith, ints, orient_turned l a p, orient_swapped_last l a p)) in
    let n2 = mul-nonneg (along a b l p) (orient l q a) (omega (arith, ints)) (omega (arith, ints, orient_turned l a q, orient_swapped_last l a q)) in
    let g = pos-from-neg (along a b l a) (orient l p q) a_before (omega (arith, ints, orient_along a b l p q a)) in
    absurd (u.l_out (disc_convex a b a p q l (omega (arith, ints, power_start a b)) (omega (arith, ints)) u.q_in
    (record { left_of_ab = omega (arith, ints); left_of_bc = omega (arith, ints, orient_turned l p q); left_of_ca = omega (arith, ints, orient_turned l a q, orient_turned l q a, orient_swapped_last l a q) })
    apl))))

-- each left end is not to the right of that line
left_weak : (a b p q l r : Point) → IsUnder a b p q l r → pos 0 ≤ℤ orient a q l
left_weak a b p q l r u =
    let s = u.step in
    ⊎_elim
    (λ e. subst (λ z. pos 0 ≤ℤ orient a q z) (sym e) (omega (arith, ints, orient_return a q)))
    (λ d. let h = left_above a b p q l r u d.0 in omega (arith, ints))
    s.left

-- and no right end to the left of the line from b
right_weak : (a b p q l r : Point) → IsUnder a b p q l r → orient b q r ≤ℤ pos 0
right_weak a b p q l r u =
    let back = left_weak (mirror b) (mirror a) (mirror p) (mirror q) (mirror r) (mirror l) (IsUnder-mirror a b p q l r u) in
    omega (arith, ints, orient_mirror q b r, orient_swapped b q r)

-- so the left end is strictly to the left of the line from b
left_across : (a b p q l r : Point) → IsUnder a b p q l r → pos 0 <ℤ orient b q l
left_across a b p q l r u =
    let turn = u.ahead in
    let after = under_after a b p q l r u in
    let before = under_before a b p q l r u in
    let (q_after, q_before) = disc_between a b q (base_positive a b p u.diamond) u.q_in in
    let weak = right_weak a b p q l r u in
    let n1 = mul-nonpos (orient q b r) (along a b q l) (omega (arith, ints, orient_swapped b q r)) (omega (arith, ints)) in
    let n2 = mul-pos (along a b q b) (orient q l r) (omega (arith, ints, dot_parts a b q)) (omega (arith, ints, orient_turned q l r)) in
    let g = neg-from-neg (along a b q r) (orient q b l) (omega (arith, ints)) (omega (arith, ints, orient_along a b q b l r)) in
    omega (arith, ints, orient_swapped b q l)

-- both ends as they lie from q
under_left : (a b p q l r : Point) → IsUnder a b p q l r → IsOnLeft a b q l
under_left a b p q l r u =
    let s = u.step in
    let across = left_across a b p q l r u in
    ⊎_elim
    (λ e. inl e)
    (λ d. inr (left_above a b p q l r u d.0, omega (arith, ints)))
    s.left

under_right : (a b p q l r : Point) → IsUnder a b p q l r → IsOnRight a b q r
under_right a b p q l r u =
    let s = u.step in
    let v = IsUnder-mirror a b p q l r u in
    let across = left_across (mirror b) (mirror a) (mirror p) (mirror q) (mirror r) (mirror l) v in
    ⊎_elim
    (λ e. inl e)
    (λ d. let d0 = d.0 in
    let above = left_above (mirror b) (mirror a) (mirror p) (mirror q) (mirror r) (mirror l) v (omega (arith, ints, orient_mirror p b r, orient_swapped b p r)) in
    inr (omega (arith, ints, orient_mirror q b r, orient_swapped b q r), omega (arith, ints, orient_mirror q a r, orient_swapped a q r)))
    s.right

pub goes_round : (a b p q l r : Point) → IsUnder a b p q l r → IsRound a b q l r
goes_round a b p q l r u =
    let s = u.step in
    let after = under_after a b p q l r u in
    let before = under_before a b p q l r u in
    record {
      step = record {
        ahead = u.ahead;
        left = under_left a b p q l r u;
        right = under_right a b p q l r u;
        a_behind = s.a_behind;
        b_behind = s.b_behind;
      };
      after = omega (arith, ints);
      before = omega (arith, ints);
    }

pub steps_go_round : StepsGoRound
steps_go_round a b p q l r h s l_out r_out q_in turn =
    goes_round a b p q l r (record { diamond = h; step = s; l_out = l_out; r_out = r_out; q_in = q_in; ahead = turn })
