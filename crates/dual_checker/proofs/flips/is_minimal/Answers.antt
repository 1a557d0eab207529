use Rattle.dual_checker.specs.declared.half_edges.HalfEdge.{HalfEdge}
use Rattle.dual_checker.specs.HalfEdges.{IsMinimalAt}
use Rattle.dual_checker.proofs.Loops.{all_fails, all_more}
use Rattle.dual_checker.proofs.flips.is_minimal.Goals as goal

pub returns-then-not-is_minimal_at : goal.returns-then-not-is_minimal_at
returns-then-not-is_minimal_at c =
    all_fails _ (λ (h : HalfEdge). IsMinimalAt c.args.points.now.points c.args.halves.now c.args.rim.now h.side) c.as_slice-half-items.result.now c.args.halves.now c.loop-half.half-index c.is_minimal_at.result c.as_slice-half-items.ensures c.loop-half-test.true c.is_minimal_at.ensures c.if-not-is_minimal_at.true

pub loop-half-preserved : goal.loop-half-preserved
loop-half-preserved c =
    all_more _ (λ (h : HalfEdge). IsMinimalAt c.args.points.now.points c.args.halves.now c.args.rim.now h.side) c.as_slice-half-items.result.now c.args.halves.now c.loop-half.half-index c.is_minimal_at.result c.as_slice-half-items.ensures c.loop-half-test.true c.is_minimal_at.ensures c.if-not-is_minimal_at.false c.loop-half.invariant
