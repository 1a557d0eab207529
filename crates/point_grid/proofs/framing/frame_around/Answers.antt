use Rattle.std.proofs.Common.{◌≡◌, ℕ, ◌∙◌, ap, arith, get_or, subst, ⊎_elim}
use Rattle.std.proofs.lemmas.Bool.{cases_lt}
use Rattle.std.proofs.lemmas.List.{get_or_default}
use Rattle.point_grid.specs.declared.spot.Spot.{Spot}
use Rattle.point_grid.specs.Frames.{IsInFrame}
use Rattle.point_grid.proofs.framing.frame_around.Goals as goal

pub loop-s-preserved : goal.loop-s-preserved
loop-s-preserved c = (
  c.extended-frame.ensures.wider _ c.loop-s.invariant.0,
  λ k d l.
      ⊎_elim
      (λ m. c.extended-frame.ensures.wider _ (c.loop-s.invariant.1 k d m))
      (λ m. let same : c.loop-s.s-index ≡ k = omega arith in
      let is = c.s-item.is ∙ (get_or_default c.args.others.now c.loop-s.s-index _ d (omega arith) ∙ ap (λ (i : ℕ). get_or c.args.others.now i d) same) in
      subst (λ (s : Spot). IsInFrame c.extended-frame.result s.point) is c.extended-frame.ensures.has)
      (cases_lt k c.loop-s.s-index),
)
