use Rattle.exact_predicates.specs.Flip.{IsMinimalBetween}
use Rattle.dual_checker.specs.declared.half_edges.HalfEdge.{HalfEdge}
use Rattle.dual_checker.proofs.Loops.{one_fewer}
use Rattle.dual_checker.proofs.flips.has_minimal_with.Goals as goal

pub loop-right-preserved : goal.loop-right-preserved
loop-right-preserved c =
    one_fewer _ (λ (h : HalfEdge). IsMinimalBetween c.args.points.now.points c.args.side.from c.args.side.to c.args.apex h.apex) c.args.rights.now c.loop-right.right-index
    c.is_minimal_between.result c.loop-right-test.true c.is_minimal_between.ensures c.if-is_minimal_between.false c.loop-right.invariant
