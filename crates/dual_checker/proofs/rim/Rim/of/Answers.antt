use Rattle.std.proofs.Common.{◌∙◌}
use Rattle.dual_checker.proofs.Rims.{map-ring_more, map-ring_all}
use Rattle.dual_checker.proofs.rim.Rim.of.Goals as goal

pub loop-k-preserved : goal.loop-k-preserved
loop-k-preserved c =
    c.in_ok-push.ensures.items
    ∙ map-ring_more c.args.hull.now c.loop-k.k _ c.next_on_hull-to.result _ c.loop-k-test.true c.next_on_hull-to.ensures.pair c.loop-k.invariant

pub returns : goal.returns
returns c =
    let all = map-ring_all c.args.hull.now c.loop-k.k c.loop-k.sides.items c.loop-k-test.false c.loop-k.invariant in
    rw (← all) c.sort_unstable.ensures.permutation
