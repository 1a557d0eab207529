use Rattle.std.proofs.Common.{◌≡◌, take}
use Rattle.tsplib_points.proofs.Units.{greatest_unit}
use Rattle.tsplib_points.proofs.scaling.unit_of.Given as goal

abbrev pub invariant-loop-node : goal.invariant-loop-node
invariant-loop-node l = l.least ≡ greatest_unit (take l.node-index l.nodes)
