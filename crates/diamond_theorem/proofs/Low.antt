-- Steps are low: an end of one outside the disc lies beside an end of the edge, and half-way over the edge the step lies low.
use Rattle.std.proofs.Common.{◌≡◌, ◌⊎◌, ℤ, pos, ◌+ℤ◌, ◌-ℤ◌, ◌*ℤ◌, ◌≤ℤ◌, ◌<ℤ◌, arith, [], ◌∷◌, sym, ◌∙◌, subst, ⊎_elim, inl, inr}
use Rattle.std.proofs.lemmas.Int.{ints, by_lt_z}
use Rattle.exact_predicates.specs.declared.point.Point.{Point}
use Rattle.exact_predicates.specs.Plane.{orient, dot, IsInLeftDiamond}
use Rattle.exact_predicates.proofs.Barycentric.{weighed}
use Rattle.exact_predicates.proofs.Blocking.{dot_parts}
use Rattle.exact_predicates.proofs.IntSigns.{mul-nonneg, mul-pos, nonneg-from-mul, pos-from-mul}
use Rattle.exact_predicates.proofs.Orientation.{orient_swapped, orient_return, orient_last_twice}
use Rattle.exact_predicates.proofs.Ring.{var, num, plus, less, times, ring}
use Rattle.diamond_theorem.specs.Discs.{IsInDisc, power}
use Rattle.diamond_theorem.specs.Laws.{StepsAreLow}
use Rattle.diamond_theorem.specs.Steps.{IsStep, IsLow}
use Rattle.diamond_theorem.proofs.Along.{base_positive, diamond_between, left_before, right_after}
use Rattle.diamond_theorem.proofs.Axis.{across_at, along, dot_as_orient, dot_start, orient_five}
use Rattle.diamond_theorem.proofs.Discs.{dot_square, power_by_parts}
use Rattle.diamond_theorem.proofs.Heights.{orient_over}
use Rattle.diamond_theorem.proofs.Signs.{mul-nonpos, mul-zero, times_opposite}

-- The edge has the length s. A point over it has the parts near and far of the edge below it, and the height up; m and n are where
-- the ends lie from the step, and d is the length of the step along the edge.
flat_numbers : (s near far up m n d f : ℤ) → pos 0 <ℤ s → pos 0 <ℤ up → (pos 5 *ℤ up) <ℤ (pos 4 *ℤ near) → (pos 5 *ℤ up) <ℤ (pos 4 *ℤ far)
    → m ≤ℤ pos 0 → n ≤ℤ pos 0 → pos 0 <ℤ f → s *ℤ f ≡ weighed far near up m n d → pos 0 <ℤ ((pos 4 *ℤ d) +ℤ (pos 5 *ℤ (m +ℤ n)))
flat_numbers s near far up m n d f hs hu hn hf m_neg n_neg ahead e =
    let whole = mul-pos s f hs ahead in
    let p = mul-nonneg ((pos 4 *ℤ far) -ℤ (pos 5 *ℤ up)) (pos 0 -ℤ m) (omega (arith, ints)) (omega (arith, ints)) in
    let q = mul-nonneg ((pos 4 *ℤ near) -ℤ (pos 5 *ℤ up)) (pos 0 -ℤ n) (omega (arith, ints)) (omega (arith, ints)) in
    let same : up *ℤ ((pos 4 *ℤ d) +ℤ (pos 5 *ℤ (m +ℤ n))) ≡ (pos 4 *ℤ weighed far near up m n d) +ℤ ((((pos 4 *ℤ far) -ℤ (pos 5 *ℤ up)) *ℤ (pos 0 -ℤ m)) +ℤ (((pos 4 *ℤ near) -ℤ (pos 5 *ℤ up)) *ℤ (pos 0 -ℤ n)))
    = ring (near ∷ far ∷ up ∷ m ∷ n ∷ d ∷ [])
    (times (var 2) (plus (times (num (pos 4)) (var 5)) (times (num (pos 5)) (plus (var 3) (var 4)))))
    (plus
    (times (num (pos 4)) (plus (times (var 1) (var 3)) (plus (times (var 0) (var 4)) (times (var 2) (var 5)))))
    (plus
    (times (less (times (num (pos 4)) (var 1)) (times (num (pos 5)) (var 2))) (less (num (pos 0)) (var 3)))
    (times (less (times (num (pos 4)) (var 0)) (times (num (pos 5)) (var 2))) (less (num (pos 0)) (var 4)))))
    (omega arith) in
    pos-from-mul up ((pos 4 *ℤ d) +ℤ (pos 5 *ℤ (m +ℤ n))) hu (omega (arith, ints))

-- what is not higher than the line from the other end to a low point is as low
below_numbers : (far up far_end up_end : ℤ) → pos 0 <ℤ far → pos 0 <ℤ far_end → (pos 5 *ℤ up) <ℤ (pos 4 *ℤ far) → (far *ℤ up_end) ≤ℤ (far_end *ℤ up) → (pos 5 *ℤ up_end) <ℤ (pos 4 *ℤ far_end)
below_numbers far up far_end up_end hf he low under =
    let p = mul-pos far_end ((pos 4 *ℤ far) -ℤ (pos 5 *ℤ up)) he (omega (arith, ints)) in
    let same : far *ℤ ((pos 4 *ℤ far_end) -ℤ (pos 5 *ℤ up_end)) ≡ (far_end *ℤ ((pos 4 *ℤ far) -ℤ (pos 5 *ℤ up))) +ℤ (pos 5 *ℤ ((far_end *ℤ up) -ℤ (far *ℤ up_end)))
    = ring (far ∷ up ∷ far_end ∷ up_end ∷ [])
    (times (var 0) (less (times (num (pos 4)) (var 2)) (times (num (pos 5)) (var 3))))
    (plus
    (times (var 2) (less (times (num (pos 4)) (var 0)) (times (num (pos 5)) (var 1))))
    (times (num (pos 5)) (less (times (var 2) (var 1)) (times (var 0) (var 3)))))
    (omega arith) in
    let q = pos-from-mul far ((pos 4 *ℤ far_end) -ℤ (pos 5 *ℤ up_end)) hf (omega (arith, ints)) in
    omega (arith, ints)

-- a point of the step is not below the edge, and before the edge not below its continuation with the slope 4/5
above_numbers : (near far up m n d : ℤ) → pos 0 <ℤ far → m ≤ℤ pos 0 → n ≤ℤ pos 0 → pos 0 <ℤ ((pos 4 *ℤ d) +ℤ (pos 5 *ℤ (m +ℤ n))) → pos 0 ≡ weighed far near up m n d
    → (pos 0 ≤ℤ up) ⊎ ((near <ℤ pos 0) × ((pos 4 *ℤ near) ≤ℤ (pos 5 *ℤ up)))
above_numbers near far up m n d hf m_neg n_neg flat on =
    let first = mul-nonpos far m (omega (arith, ints)) m_neg in
    let long : pos 0 <ℤ d = omega (arith, ints) in
    by_lt_z near (pos 0)
    (λ before.
    let second = mul-nonneg (pos 0 -ℤ near) ((pos 4 *ℤ d) +ℤ (pos 5 *ℤ n)) (omega (arith, ints)) (omega (arith, ints)) in
    let same : d *ℤ ((pos 5 *ℤ up) -ℤ (pos 4 *ℤ near)) ≡ ((pos 5 *ℤ weighed far near up m n d) -ℤ (pos 5 *ℤ (far *ℤ m))) +ℤ ((pos 0 -ℤ near) *ℤ ((pos 4 *ℤ d) +ℤ (pos 5 *ℤ n)))
    = ring (near ∷ far ∷ up ∷ m ∷ n ∷ d ∷ [])
    (times (var 5) (less (times (num (pos 5)) (var 2)) (times (num (pos 4)) (var 0))))
    (plus
    (less (times (num (pos 5)) (plus (times (var 1) (var 3)) (plus (times (var 0) (var 4)) (times (var 2) (var 5))))) (times (num (pos 5)) (times (var 1) (var 3))))
    (times (less (num (pos 0)) (var 0)) (plus (times (num (pos 4)) (var 5)) (times (num (pos 5)) (var 4)))))
    (omega arith) in
    let k = nonneg-from-mul d ((pos 5 *ℤ up) -ℤ (pos 4 *ℤ near)) long (omega (arith, ints)) in
    inr (before, omega (arith, ints)))
    (λ after. let second = mul-nonpos near n after n_neg in
    inl (nonneg-from-mul d up long (omega (arith, ints))))

-- a low point outside the disc lies beside the end
close_numbers : (near far up : ℤ) → pos 0 <ℤ far → (pos 5 *ℤ up) <ℤ (pos 4 *ℤ far) → (pos 0 ≤ℤ up) ⊎ ((near <ℤ pos 0) × ((pos 4 *ℤ near) ≤ℤ (pos 5 *ℤ up)))
    → (near *ℤ far) ≤ℤ (up *ℤ up) → (pos 25 *ℤ near) <ℤ (pos 16 *ℤ far)
close_numbers near far up hf low above out =
    ⊎_elim
    (λ h. let p = mul-pos ((pos 4 *ℤ far) -ℤ (pos 5 *ℤ up)) ((pos 4 *ℤ far) +ℤ (pos 5 *ℤ up)) (omega (arith, ints)) (omega (arith, ints)) in
    let same : far *ℤ ((pos 16 *ℤ far) -ℤ (pos 25 *ℤ near)) ≡ (((pos 4 *ℤ far) -ℤ (pos 5 *ℤ up)) *ℤ ((pos 4 *ℤ far) +ℤ (pos 5 *ℤ up))) +ℤ (pos 25 *ℤ ((up *ℤ up) -ℤ (near *ℤ far)))
    = ring (near ∷ far ∷ up ∷ [])
    (times (var 1) (less (times (num (pos 16)) (var 1)) (times (num (pos 25)) (var 0))))
    (plus
    (times (less (times (num (pos 4)) (var 1)) (times (num (pos 5)) (var 2))) (plus (times (num (pos 4)) (var 1)) (times (num (pos 5)) (var 2))))
    (times (num (pos 25)) (less (times (var 2) (var 2)) (times (var 0) (var 1)))))
    (omega arith) in
    let k = pos-from-mul far ((pos 16 *ℤ far) -ℤ (pos 25 *ℤ near)) hf (omega (arith, ints)) in
    omega (arith, ints))
    (λ h. let h0 = h.0 in omega (arith, ints))
    above

-- all of an end
low_numbers : (far_goal up_goal near far up m n d : ℤ) → pos 0 <ℤ far_goal → (pos 5 *ℤ up_goal) <ℤ (pos 4 *ℤ far_goal) → pos 0 <ℤ far → (far_goal *ℤ up) ≤ℤ (far *ℤ up_goal)
    → m ≤ℤ pos 0 → n ≤ℤ pos 0 → pos 0 <ℤ ((pos 4 *ℤ d) +ℤ (pos 5 *ℤ (m +ℤ n))) → pos 0 ≡ weighed far near up m n d → (near *ℤ far) ≤ℤ (up *ℤ up) → IsLow near far up
low_numbers far_goal up_goal near far up m n d hg low hf under m_neg n_neg flat on out =
    let below = below_numbers far_goal up_goal far up hg hf low under in
    let above = above_numbers near far up m n d hf m_neg n_neg flat on in
    record {
      beside = close_numbers near far up hf below above out;
      below = below;
      above = ⊎_elim (λ h. inl h) (λ h. inr h.1) above;
    }

-- an end of the edge is low itself
low_end : (near far up : ℤ) → near ≡ pos 0 → pos 0 <ℤ far → up ≡ pos 0 → IsLow near far up
low_end near far up e h f = record { beside = omega (arith, ints); below = omega (arith, ints); above = inl (omega (arith, ints)) }

-- half-way over the edge a step lies low
flat_step : (a b p l r : Point) → IsInLeftDiamond a b p → IsStep a b p l r → pos 0 <ℤ ((pos 4 *ℤ along a b l r) +ℤ (pos 5 *ℤ (orient l r a +ℤ orient l r b)))
flat_step a b p l r h s =
    flat_numbers (dot a b b) (dot a b p) (dot b a p) (orient a b p) (orient l r a) (orient l r b) (along a b l r) (orient l r p)
    (base_positive a b p h) h.left h.angle_at_p h.angle_at_q s.a_behind s.b_behind s.ahead (orient_over a b l r p)

-- a point outside the disc, by the parts of the edge
out_of_disc : (a b z : Point) → ¬ IsInDisc a b z → (dot a b z *ℤ dot b a z) ≤ℤ (orient a b z *ℤ orient a b z)
out_of_disc a b z out =
    by_lt_z (power a b z) (pos 0)
    (λ h. absurd (out h))
    (λ h. let m = mul-nonneg (dot a b b) (power a b z) (dot_square a b) h in omega (arith, ints, power_by_parts a b z))

-- where z lies from the line from a to p
from_start : (a b p z : Point) → dot a b p *ℤ orient a b z ≡ (dot a b b *ℤ orient a p z) +ℤ (dot a b z *ℤ orient a b p)
from_start a b p z = rw (dot_as_orient a b p, dot_as_orient a b b, dot_as_orient a b z) (orient_five a (across_at a b a) b p z)

-- the same from b, by the heights over ab
from_end : (a b p z : Point) → dot b a p *ℤ orient a b z ≡ (dot b a z *ℤ orient a b p) -ℤ (dot b a a *ℤ orient b p z)
from_end a b p z =
    let down : orient b a z ≡ pos 0 -ℤ orient a b z = omega (arith, ints, orient_swapped a b z) in
    let down_p : orient b a p ≡ pos 0 -ℤ orient a b p = omega (arith, ints, orient_swapped a b p) in
    let e = rw (down, down_p) at (from_start b a p z) in
    omega (arith, ints, e, times_opposite (dot b a p) (orient a b z), times_opposite (dot b a z) (orient a b p))

left_low : (a b p l r : Point) → IsInLeftDiamond a b p → IsStep a b p l r → ¬ IsInDisc a b l → IsLow (dot a b l) (dot b a l) (orient a b l)
left_low a b p l r h s out =
    let (after_a, before_b) = diamond_between a b p h in
    let base = base_positive a b p h in
    let flat = flat_step a b p l r h s in
    ⊎_elim
    (λ e. subst (λ z. IsLow (dot a b z) (dot b a z) (orient a b z)) (sym e)
    (low_end (dot a b a) (dot b a a) (orient a b a) (dot_start a b) (omega (arith, ints, dot_parts a b a, dot_start a b)) (orient_return a b)))
    (λ d. let before = left_before a b p l h s.left in
    let under = mul-nonneg (dot b a a) (orient b p l) (dot_square b a) d.1 in
    low_numbers (dot b a p) (orient a b p) (dot a b l) (dot b a l) (orient a b l) (orient l r a) (orient l r b) (along a b l r)
    before_b h.angle_at_q (omega (arith, ints, dot_parts a b p, dot_parts a b l)) (omega (arith, ints, from_end a b p l))
    s.a_behind s.b_behind flat (sym (mul-zero (dot a b b) (orient l r l) (orient_return l r)) ∙ orient_over a b l r l) (out_of_disc a b l out))
    s.left

right_low : (a b p l r : Point) → IsInLeftDiamond a b p → IsStep a b p l r → ¬ IsInDisc a b r → IsLow (dot b a r) (dot a b r) (orient a b r)
right_low a b p l r h s out =
    let (after_a, before_b) = diamond_between a b p h in
    let base = base_positive a b p h in
    let flat = flat_step a b p l r h s in
    ⊎_elim
    (λ e. subst (λ z. IsLow (dot b a z) (dot a b z) (orient a b z)) (sym e)
    (low_end (dot b a b) (dot a b b) (orient a b b) (dot_start b a) base (orient_last_twice a b)))
    (λ d. let after = right_after a b p r h s.right in
    let under = mul-nonpos (dot a b b) (orient a p r) (dot_square a b) d.1 in
    let outside = out_of_disc a b r out in
    low_numbers (dot a b p) (orient a b p) (dot b a r) (dot a b r) (orient a b r) (orient l r b) (orient l r a) (along a b l r)
    after_a h.angle_at_p (omega (arith, ints)) (omega (arith, ints, from_start a b p r))
    s.b_behind s.a_behind (omega (arith, ints)) (omega (arith, ints, mul-zero (dot a b b) (orient l r r) (orient_last_twice l r), orient_over a b l r r)) (omega (arith, ints)))
    s.right

pub low_step : StepsAreLow
low_step a b p l r h s l_out r_out =
    let flat = flat_step a b p l r h s in
    record { left = left_low a b p l r h s l_out; right = right_low a b p l r h s r_out; half_way = omega (arith, ints) }
