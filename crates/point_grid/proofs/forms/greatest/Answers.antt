use Rattle.std.proofs.Common.{arith}
use Rattle.exact_predicates.proofs.Gaps.{kept}
use Rattle.point_grid.proofs.Bits.{kept_sum, sum_le}
use Rattle.point_grid.proofs.forms.greatest.Goals as goal

pub returns-clause-above : goal.returns-clause-above
returns-clause-above c = λ x y v.
    let w = c.args.view.now in
    let h = rw (kept c.args.a (omega (arith, c.requires.a_in))) at (c.largest.ensures.above x (rw (kept w.left (omega (arith, w.left_in))) v.left) (rw (kept w.right (omega (arith, w.right_in))) v.right)) in
    let k = rw (kept c.args.b (omega (arith, c.requires.b_in))) at (c.largest-2.ensures.above y (rw (kept w.low (omega (arith, w.low_in))) v.low) (rw (kept w.high (omega (arith, w.high_in))) v.high)) in
    rw (kept_sum c.largest.result c.largest-2.result (omega (arith, c.largest.ensures.bound)) (omega (arith, c.largest-2.ensures.bound)))
    (sum_le _ _ _ _ h k)
