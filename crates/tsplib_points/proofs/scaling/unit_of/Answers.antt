-- The greatest unit of the nodes as far as the loop has come.
use Rattle.std.proofs.Common.{◌∙◌, ap}
use Rattle.std.proofs.lemmas.List.{take_all}
use Rattle.tsplib_points.proofs.Units.{greatest_unit, greatest_unit-more, unit_from}
use Rattle.tsplib_points.proofs.scaling.unit_of.Goals as goal

pub loop-node-preserved : goal.loop-node-preserved
loop-node-preserved c =
    greatest_unit-more c.args.nodes.now c.loop-node.node-index _ _ _ _ c.loop-node-test.true c.loop-node.invariant c.max.ensures c.max-least.ensures

pub returns : goal.returns
returns c = λ ns kept.
    c.loop-node.invariant ∙ ap greatest_unit (take_all c.loop-node.node-index c.args.nodes.now c.loop-node-test.false) ∙ unit_from c.args.nodes.now ns kept
