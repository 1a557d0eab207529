use Rattle.std.proofs.Common.{◌<◌, sym, subst}
use Rattle.exact_predicates.specs.declared.tri.Tri.{Tri}
use Rattle.dual_checker.proofs.CornerMarks.{AreCornerMarks-more}
use Rattle.dual_checker.proofs.corners.corner_marks.Goals as goal

pub loop-tri-preserved : goal.loop-tri-preserved
loop-tri-preserved c =
    let t = c.tri-item.result in
    let inside : (t.b < c.args.count) × (t.c < c.args.count) = subst (λ (u : Tri). (u.b < c.args.count) × (u.c < c.args.count)) (sym c.tri-item.is) (c.requires c.loop-tri.tri-index t c.loop-tri-test.true) in
    AreCornerMarks-more c.args.count c.args.tris.now c.loop-tri.tri-index t c.loop-tri.marks.items c.loop-tri-test.true c.tri-item.is inside.0 inside.1 c.loop-tri.invariant
