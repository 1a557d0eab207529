use Rattle.std.proofs.Common.{◌≡◌, ◌<◌, false, length, subst, sym, ◌∙◌, arith, inl, inr}
use Rattle.std.proofs.lemmas.Bool.{cases_lt}
use Rattle.std.proofs.lemmas.List.{get_or_default}
use Rattle.dual_checker.specs.Corners.{IsCornerIn, AreCornerMarks}
use Rattle.dual_checker.proofs.corners.are_corners.Goals as goal

pub loop-x-preserved : goal.loop-x-preserved
loop-x-preserved c = λ k k_in. elim (cases_lt k c.loop-x.x) [
  | inl before ↦ c.loop-x.invariant k before
  | inr last ↦
      let m : AreCornerMarks c.args.count c.args.tris.now c.in_ok-marks.marks.items = c.in_ok-marks.ensures in
      let inside : c.loop-x.x < length c.in_ok-marks.marks.items = omega (arith, m.one_each, c.loop-x-test.true) in
      let here : c.loop-x.x ≡ k = omega arith in
      subst (IsCornerIn c.args.tris.now) here ((m.each c.loop-x.x c.loop-x-test.true).0
      (get_or_default c.in_ok-marks.marks.items c.loop-x.x false c.index.result.now inside ∙ (sym c.index.ensures ∙ c.if-not-index.false)))
]
