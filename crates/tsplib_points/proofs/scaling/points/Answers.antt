-- The points of the nodes as far as the loop has come.
use Rattle.std.proofs.Common.{◌∙◌}
use Rattle.tsplib_points.proofs.ScaledPoints.{AreScaled-more, AreScaled-all, AreScaled-refused}
use Rattle.tsplib_points.proofs.scaling.points.Goals as goal

pub loop-node-preserved : goal.loop-node-preserved
loop-node-preserved c =
    rw c.in_ok-push.ensures.items
    (AreScaled-more c.args.unit c.loop-node.node-index c.args.nodes.items c.deref-node-items.result.now c.loop-node.points.items c.in-Some.point _
    c.deref-node-items.ensures.value c.loop-node-test.true c.in-Some.ensures c.loop-node.invariant)

pub returns-in_default-clause-refused : goal.returns-in_default-clause-refused
returns-in_default-clause-refused c = λ why e ns z.
    AreScaled-refused c.args.unit c.loop-node.node-index c.args.nodes.items c.deref-node-items.result.now c.loop-node.points.items _
    c.deref-node-items.ensures.value c.loop-node-test.true c.in_default.ensures c.loop-node.invariant ns z
    ∙ cc

pub returns-clause-scaled : goal.returns-clause-scaled
returns-clause-scaled c = λ ns z.
    (AreScaled-all c.args.unit c.loop-node.node-index c.args.nodes.items c.deref-node-items.result.now c.loop-node.points.items
    c.deref-node-items.ensures.value c.loop-node-test.false c.loop-node.invariant ns z).0

pub returns-clause-in_range : goal.returns-clause-in_range
returns-clause-in_range c = λ ns z.
    (AreScaled-all c.args.unit c.loop-node.node-index c.args.nodes.items c.deref-node-items.result.now c.loop-node.points.items
    c.deref-node-items.ensures.value c.loop-node-test.false c.loop-node.invariant ns z).1
