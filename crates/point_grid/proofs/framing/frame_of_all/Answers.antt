use Rattle.std.proofs.Common.{ap, ◌∙◌, subst}
use Rattle.exact_predicates.specs.declared.point.Point.{Point}
use Rattle.point_grid.specs.Frames.{Extends}
use Rattle.point_grid.proofs.FrameSteps.{IsFrameOf-first, IsFrameOf-next}
use Rattle.point_grid.proofs.framing.frame_of_all.Goals as goal

pub loop-r-init : goal.loop-r-init
loop-r-init c =
    let at = c.at.ensures.value in
    let f = c.frame_of-frame.ensures in
    IsFrameOf-first _ _ (f.left ∙ ap (λ (p : Point). p.x) at) (f.right ∙ ap (λ (p : Point). p.x) at) (f.low ∙ ap (λ (p : Point). p.y) at) (f.high ∙ ap (λ (p : Point). p.y) at)

pub loop-r-preserved : goal.loop-r-preserved
loop-r-preserved c =
    IsFrameOf-next _ c.loop-r.r _ _ c.loop-r.invariant
    (subst (λ (p : Point). Extends c.loop-r.frame p c.extended-frame.result) c.at-in-loop-r.ensures.value c.extended-frame.ensures)
