-- Twice the area fits.
use Rattle.std.proofs.Common.{arith, ◌≡◌, ◌*◌, ◌^◌, ◌≤◌, ◌*ℤ◌, ◌-ℤ◌, ℤ, to_z, of_z, unsigned_abs, w64, ap, ◌∙◌}
use Rattle.std.proofs.lemmas.Int.{ints}
use Rattle.exact_predicates.specs.Plane.{orient}
use Rattle.exact_predicates.proofs.Gaps.{gap_x, gap_y, orient_le}
use Rattle.exact_predicates.proofs.point.double_area.Goals as goal

-- a difference of two products is not changed by its way through the bits
difference : (x y : ℤ) → unsigned_abs x ≤ 4 * 10 ^ 18 → unsigned_abs y ≤ 4 * 10 ^ 18 → to_z w64 (of_z w64 (to_z w64 (of_z w64 x) -ℤ to_z w64 (of_z w64 y))) ≡ x -ℤ y
difference x y h k = omega (arith, ints)

pub overflow_sub-q-2 : goal.overflow_sub-q-2
overflow_sub-q-2 c = omega (arith, ints)

pub overflow_sub-result : goal.overflow_sub-result
overflow_sub-result c = omega (arith, ints)

pub returns-clause-value : goal.returns-clause-value
unfolding orient
returns-clause-value c =
    let p = c.args.p.now in
    let q = c.args.q.now in
    let r = c.args.r.now in
    let one = rw (gap_x p q c.requires.p_in c.requires.q_in, gap_y p r c.requires.p_in c.requires.r_in) at c.product.ensures.value in
    let two = rw (gap_y p q c.requires.p_in c.requires.q_in, gap_x p r c.requires.p_in c.requires.r_in) at c.product-2.ensures.value in
    difference c.product.result c.product-2.result c.product.ensures.bound c.product-2.ensures.bound ∙ (ap (λ z. z -ℤ c.product-2.result) one ∙ ap (λ z. ((q.x -ℤ p.x) *ℤ (r.y -ℤ p.y)) -ℤ z) two)

pub returns-clause-bound : goal.returns-clause-bound
returns-clause-bound c = rw (returns-clause-value c) (orient_le c.args.p.now c.args.q.now c.args.r.now c.requires.p_in c.requires.q_in c.requires.r_in)
