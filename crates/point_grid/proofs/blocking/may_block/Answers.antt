use Rattle.std.proofs.Common.{◌-ℤ◌, arith}
use Rattle.exact_predicates.proofs.Gaps.{kept}
use Rattle.point_grid.proofs.FlatForms.{flat_blocks, cosine_of, in_view, sine_of}
use Rattle.point_grid.proofs.blocking.may_block.Goals as goal

pub returns : goal.returns
returns c = λ r i b.
    let p = c.args.p.now in
    let q = c.args.q.now in
    let e = c.seen_from.ensures in
    let v = in_view c.args.frame.now p r c.seen_from.result e.left e.right e.low e.high i in
    c.may_be_flat.ensures (r.x -ℤ p.x) (r.y -ℤ p.y) v
    (rw
    (kept c.height.result (omega (arith, c.height.ensures.bound)), kept c.width.result (omega (arith, c.width.ensures.bound)), kept c.width-2.result (omega (arith, c.width-2.ensures.bound)), kept c.height-2.result (omega (arith, c.height-2.ensures.bound)), c.height.ensures.value, c.width.ensures.value, c.width-2.ensures.value, c.height-2.ensures.value)
    (flat_blocks p q r _ _ _ (sine_of p q r) (cosine_of p q r) (cosine_of p q q) b))
