use Rattle.tsplib_points.proofs.ScaledPoints.{AreScaled}
use Rattle.tsplib_points.proofs.scaling.points.Given as goal

abbrev pub invariant-loop-node : goal.invariant-loop-node
invariant-loop-node l = AreScaled l.unit l.node-index l.fn.nodes.items l.points.items
