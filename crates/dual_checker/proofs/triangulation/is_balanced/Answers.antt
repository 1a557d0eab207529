use Rattle.dual_checker.specs.declared.half_edges.HalfEdge.{HalfEdge}
use Rattle.dual_checker.specs.HalfEdges.{IsBalancedAt}
use Rattle.dual_checker.proofs.Loops.{all_fails, all_more, all_hold}
use Rattle.dual_checker.proofs.triangulation.is_balanced.Goals as goal

pub returns-then-not-is_balanced_at : goal.returns-then-not-is_balanced_at
returns-then-not-is_balanced_at c =
    all_fails _ (λ (h : HalfEdge). IsBalancedAt c.args.halves.now c.args.rim.now h.side) c.as_slice-half-items.result.now c.args.halves.now c.loop-half.half-index c.is_balanced_at.result c.as_slice-half-items.ensures c.loop-half-test.true c.is_balanced_at.ensures c.if-not-is_balanced_at.true

pub loop-half-preserved : goal.loop-half-preserved
loop-half-preserved c =
    all_more _ (λ (h : HalfEdge). IsBalancedAt c.args.halves.now c.args.rim.now h.side) c.as_slice-half-items.result.now c.args.halves.now c.loop-half.half-index c.is_balanced_at.result c.as_slice-half-items.ensures c.loop-half-test.true c.is_balanced_at.ensures c.if-not-is_balanced_at.false c.loop-half.invariant

pub returns : goal.returns
returns c = all_hold (λ (h : HalfEdge). IsBalancedAt c.args.halves.now c.args.rim.now h.side) c.as_slice-half-items.result.now c.args.halves.now c.loop-half.half-index c.as_slice-half-items.ensures c.loop-half-test.false c.loop-half.invariant
