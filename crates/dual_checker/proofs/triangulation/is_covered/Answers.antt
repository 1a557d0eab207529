use Rattle.dual_checker.specs.HalfEdges.{IsCoveredOnce}
use Rattle.dual_checker.proofs.Loops.{all_fails, all_more, all_hold}
use Rattle.dual_checker.proofs.triangulation.is_covered.Goals as goal

pub returns-then-not-is_covered_once : goal.returns-then-not-is_covered_once
returns-then-not-is_covered_once c =
    all_fails _ (IsCoveredOnce c.args.halves.now) c.as_slice-side-items.result.now c.args.rim.now c.loop-side.side-index c.is_covered_once.result c.as_slice-side-items.ensures c.loop-side-test.true c.is_covered_once.ensures c.if-not-is_covered_once.true

pub loop-side-preserved : goal.loop-side-preserved
loop-side-preserved c =
    all_more _ (IsCoveredOnce c.args.halves.now) c.as_slice-side-items.result.now c.args.rim.now c.loop-side.side-index c.is_covered_once.result c.as_slice-side-items.ensures c.loop-side-test.true c.is_covered_once.ensures c.if-not-is_covered_once.false c.loop-side.invariant

pub returns : goal.returns
returns c = all_hold (IsCoveredOnce c.args.halves.now) c.as_slice-side-items.result.now c.args.rim.now c.loop-side.side-index c.as_slice-side-items.ensures c.loop-side-test.false c.loop-side.invariant
