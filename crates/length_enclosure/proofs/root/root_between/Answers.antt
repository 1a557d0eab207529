use Rattle.std.proofs.Common.{◌+◌, arith}
use Rattle.exact_predicates.proofs.Roots.{IsRootDown-next, root_down_only, square-le}
use Rattle.length_enclosure.proofs.root.root_between.Goals as goal

pub returns : goal.returns
returns c =
    let low = c.loop-low.low in
    let i = c.loop-low.invariant in
    root_down_only c.args.n low (IsRootDown-next _ _ i.0 (omega (arith, i.1, square-le c.loop-low.high (low + 1) c.loop-low-test.false)))
