use Rattle.std.proofs.Common.{arith}
use Rattle.exact_predicates.proofs.Gaps.{kept}
use Rattle.point_grid.proofs.Bits.{sum_le}
use Rattle.point_grid.proofs.forms.least_norm.Goals as goal

pub returns-clause-below : goal.returns-clause-below
returns-clause-below c = λ x y v.
    let w = c.args.view.now in
    let a = c.nearest.result in
    let b = c.nearest-2.result in
    let h = c.nearest.ensures.below x (rw (kept w.left (omega (arith, w.left_in))) v.left) (rw (kept w.right (omega (arith, w.right_in))) v.right) in
    let k = c.nearest-2.ensures.below y (rw (kept w.low (omega (arith, w.low_in))) v.low) (rw (kept w.high (omega (arith, w.high_in))) v.high) in
    let is = rw (kept a (omega (arith, c.nearest.ensures.bound)), kept b (omega (arith, c.nearest-2.ensures.bound))) at c.norm.ensures.value in
    rw (kept c.norm.result c.norm.ensures.bound, is) (sum_le _ _ _ _ h k)
