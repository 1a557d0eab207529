use Rattle.dual_checker.specs.declared.half_edges.HalfEdge.{HalfEdge}
use Rattle.dual_checker.specs.HalfEdges.{HasMinimalWith}
use Rattle.dual_checker.proofs.Loops.{found_one, one_fewer, none_found}
use Rattle.dual_checker.proofs.flips.has_minimal.Goals as goal

pub returns-then-has_minimal_with : goal.returns-then-has_minimal_with
returns-then-has_minimal_with c =
    found_one _ (λ (h : HalfEdge). HasMinimalWith c.args.points.now.points c.args.side h.apex c.args.rights.now) c.args.lefts.now c.loop-left.left-index
    c.has_minimal_with.result c.loop-left-test.true c.has_minimal_with.ensures c.if-has_minimal_with.true

pub loop-left-preserved : goal.loop-left-preserved
loop-left-preserved c =
    one_fewer _ (λ (h : HalfEdge). HasMinimalWith c.args.points.now.points c.args.side h.apex c.args.rights.now) c.args.lefts.now c.loop-left.left-index
    c.has_minimal_with.result c.loop-left-test.true c.has_minimal_with.ensures c.if-has_minimal_with.false c.loop-left.invariant

pub returns : goal.returns
returns c =
    none_found (λ (h : HalfEdge). HasMinimalWith c.args.points.now.points c.args.side h.apex c.args.rights.now) c.args.lefts.now c.loop-left.left-index c.loop-left-test.false c.loop-left.invariant
