-- The inner product fits.
use Rattle.std.proofs.Common.{arith, ◌≡◌, ◌*◌, ◌^◌, ◌≤◌, ◌*ℤ◌, ◌+ℤ◌, ◌-ℤ◌, ℤ, FitsSigned, to_z, of_z, unsigned_abs, w64, ap, ◌∙◌}
use Rattle.std.proofs.lemmas.Int.{ints}
use Rattle.exact_predicates.specs.Plane.{dot}
use Rattle.exact_predicates.proofs.Gaps.{gap_x, gap_y, height_le, dot_le}
use Rattle.exact_predicates.proofs.point.inner_product.Goals as goal

-- a sum of two products is not changed by its way through the bits
total : (x y : ℤ) → unsigned_abs x ≤ 4 * 10 ^ 18 → unsigned_abs y ≤ 4 * 10 ^ 18 → to_z w64 (of_z w64 (to_z w64 (of_z w64 x) +ℤ to_z w64 (of_z w64 y))) ≡ x +ℤ y
total x y h k = omega (arith, ints)

fits : (x y : ℤ) → unsigned_abs x ≤ 4 * 10 ^ 18 → unsigned_abs y ≤ 4 * 10 ^ 18 → FitsSigned w64 (to_z w64 (of_z w64 x) +ℤ to_z w64 (of_z w64 y))
fits x y h k = omega (arith, ints)

pub overflow_sub-p-2 : goal.overflow_sub-p-2
overflow_sub-p-2 c = omega (arith, ints)

pub overflow_sub-q-2 : goal.overflow_sub-q-2
overflow_sub-q-2 c = omega (arith, ints)

pub product-requires-2 : goal.product-requires-2
product-requires-2 c =
    let o = c.args.o.now in
    let p = c.args.p.now in
    let q = c.args.q.now in
    record {
      a_in = rw (gap_y o p c.requires.o_in c.requires.p_in) (height_le o p c.requires.o_in c.requires.p_in);
      b_in = rw (gap_y o q c.requires.o_in c.requires.q_in) (height_le o q c.requires.o_in c.requires.q_in);
    }

pub overflow_add-result : goal.overflow_add-result
overflow_add-result c = fits c.product.result c.product-2.result c.product.ensures.bound c.product-2.ensures.bound

pub returns-clause-value : goal.returns-clause-value
unfolding dot
returns-clause-value c =
    let o = c.args.o.now in
    let p = c.args.p.now in
    let q = c.args.q.now in
    let one = rw (gap_x o p c.requires.o_in c.requires.p_in, gap_x o q c.requires.o_in c.requires.q_in) at c.product.ensures.value in
    let two = rw (gap_y o p c.requires.o_in c.requires.p_in, gap_y o q c.requires.o_in c.requires.q_in) at c.product-2.ensures.value in
    total c.product.result c.product-2.result c.product.ensures.bound c.product-2.ensures.bound ∙ (ap (λ z. z +ℤ c.product-2.result) one ∙ ap (λ z. ((p.x -ℤ o.x) *ℤ (q.x -ℤ o.x)) +ℤ z) two)

pub returns-clause-bound : goal.returns-clause-bound
returns-clause-bound c = rw (returns-clause-value c) (dot_le c.args.o.now c.args.p.now c.args.q.now c.requires.o_in c.requires.p_in c.requires.q_in)
