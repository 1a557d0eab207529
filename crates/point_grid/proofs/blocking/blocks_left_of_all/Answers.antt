use Rattle.std.proofs.Common.{◌-ℤ◌, arith}
use Rattle.exact_predicates.proofs.Gaps.{kept}
use Rattle.point_grid.proofs.FlatForms.{blocks_flat, cosine_at, cosine_of, in_view, sine_at}
use Rattle.point_grid.proofs.blocking.blocks_left_of_all.Goals as goal

pub returns : goal.returns
returns c = λ h q i.
    let p = c.args.p.now in
    let w = c.args.w.now in
    let e = c.seen_from.ensures in
    let v = in_view c.args.frame.now p q c.seen_from.result e.left e.right e.low e.high i in
    let f =
    rw
    (kept c.height.result (omega (arith, c.height.ensures.bound)), kept c.width.result (omega (arith, c.width.ensures.bound)), kept c.width-2.result (omega (arith, c.width-2.ensures.bound)), kept c.height-2.result (omega (arith, c.height-2.ensures.bound)), c.height.ensures.value, c.width.ensures.value, c.width-2.ensures.value, c.height-2.ensures.value)
    at (c.is_flat_over.ensures h (q.x -ℤ p.x) (q.y -ℤ p.y) v) in
    blocks_flat p q w _ _ _ (sine_at p q w) (cosine_at p q w) (cosine_of p q q) f
