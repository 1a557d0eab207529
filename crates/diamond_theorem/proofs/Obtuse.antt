-- A step of the walk to a point q of the disc is seen from q at an obtuse angle, so it is longer than q is far from its ends.
use Rattle.std.proofs.Common.{◌≡◌, ◌*◌, ℤ, pos, negsuc, ◌+ℤ◌, ◌-ℤ◌, ◌*ℤ◌, ◌<ℤ◌, unsigned_abs, arith, [], ◌∷◌}
use Rattle.std.proofs.lemmas.Int.{ints}
use Rattle.exact_predicates.specs.declared.point.Point.{Point}
use Rattle.exact_predicates.specs.Plane.{orient, dot, d2}
use Rattle.exact_predicates.proofs.Between.{dot_comm}
use Rattle.exact_predicates.proofs.Gaps.{d2_is}
use Rattle.exact_predicates.proofs.IntSigns.{mul-nonneg, nonneg-from-mul}
use Rattle.exact_predicates.proofs.Orientation.{coordinates, orient_swapped, orient_turned}
use Rattle.exact_predicates.proofs.Ring.{num, plus, times, ring}
use Rattle.diamond_theorem.specs.Discs.{IsInDisc}
use Rattle.diamond_theorem.specs.Laws.{StepsAreSeenObtuse}
use Rattle.diamond_theorem.specs.Steps.{IsStep}
use Rattle.diamond_theorem.proofs.Ascents.{left_strict, right_strict}
use Rattle.diamond_theorem.proofs.Axis.{barycentric_dot, dot_start, dot_term}
use Rattle.diamond_theorem.proofs.Discs.{dot_square}
use Rattle.diamond_theorem.proofs.Signs.{mul-both_nonpos, mul-neg, mul-nonpos, mul-zero, neg-from-neg}
use Rattle.diamond_theorem.proofs.Steps.{left_sides, right_sides}

abs_square : (z : ℤ) → pos (unsigned_abs z * unsigned_abs z) ≡ z *ℤ z
abs_square (pos n) = omega (arith, ints)
abs_square (negsuc n) = omega (arith, ints)

-- a squared distance, as an inner product
pub d2_is_dot : (p q : Point) → pos (d2 p q) ≡ dot p q q
unfolding dot
d2_is_dot p q = omega (arith, ints, d2_is p q, abs_square (q.x -ℤ p.x), abs_square (q.y -ℤ p.y))

-- the law of cosines
cosines : (q l r : Point) → dot l r r +ℤ (pos 2 *ℤ dot q l r) ≡ dot q l l +ℤ dot q r r
unfolding dot
cosines q l r =
    ring (coordinates (q ∷ l ∷ r ∷ [])) (plus (dot_term 2 4 4) (times (num (pos 2)) (dot_term 0 2 4))) (plus (dot_term 0 2 2) (dot_term 0 4 4)) (omega arith)

-- what q sees of z and of a second point, by what it sees of a and b and of that point
by_ends : (a b q z t : Point) → orient q a b *ℤ dot q t z ≡ (orient b q z *ℤ dot q t a) +ℤ (orient q a z *ℤ dot q t b)
by_ends a b q z t = omega (arith, ints, barycentric_dot q a b z q t, mul-zero (orient a b z) (dot q t q) (dot_start q t))

obtuse : (a b q l r : Point) → pos 0 <ℤ orient a b q → IsInDisc a b q → IsStep a b q l r → dot q l r <ℤ pos 0
obtuse a b q l r area q_in s =
    let (la, lb) = left_sides a b q l area s.left in
    let (ra, rb) = right_sides a b q r area s.right in
    let l_strict = left_strict a b q l r area s in
    let r_strict = right_strict a b q l r area s in
    let whole : pos 0 <ℤ orient q a b = omega (arith, ints, orient_turned q a b) in
    let a1 = mul-nonpos (dot q a a) (orient b q r) (dot_square q a) rb in
    let a2 = mul-neg (orient q a r) (dot q a b) (omega (arith, ints, orient_swapped a q r)) q_in in
    let ar = neg-from-neg (orient q a b) (dot q a r) (omega (arith, ints)) (omega (arith, ints, by_ends a b q r a)) in
    let b1 = mul-both_nonpos (orient b q r) (dot q b a) rb (omega (arith, ints, dot_comm q b a)) in
    let b2 = mul-nonneg (orient q a r) (dot q b b) (omega (arith, ints, orient_swapped a q r)) (dot_square q b) in
    let br = nonneg-from-mul (orient q a b) (dot q b r) whole (omega (arith, ints, by_ends a b q r b)) in
    let l1 = mul-neg (orient b q l) (dot q r a) l_strict (omega (arith, ints, dot_comm q r a)) in
    let l2 = mul-nonpos (dot q r b) (orient q a l) (omega (arith, ints, dot_comm q r b)) (omega (arith, ints, orient_swapped a q l)) in
    let rl = neg-from-neg (orient q a b) (dot q r l) (omega (arith, ints)) (omega (arith, ints, by_ends a b q l r)) in
    omega (arith, ints, dot_comm q r l)

pub steps_are_seen_obtuse : StepsAreSeenObtuse
steps_are_seen_obtuse a b q l r area q_in s =
    let angle = obtuse a b q l r area q_in s in
    let far_l = dot_square q l in
    let far_r = dot_square q r in
    (angle, omega (arith, ints, cosines q l r, d2_is_dot l r, d2_is_dot q l), omega (arith, ints, cosines q l r, d2_is_dot l r, d2_is_dot q r))
