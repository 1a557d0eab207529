use Rattle.std.proofs.Common.{◌≡◌, ℕ, slice_index, sym, ◌∙◌, subst, arith, below_more}
use Rattle.std.proofs.lemmas.Bool.{false≢true}
use Rattle.std.proofs.lemmas.List.{get_or_default}
use Rattle.lmt_network.specs.Due.{AreSidesDue, StayDue}
use Rattle.lmt_network.proofs.settle.make_due.Goals as goal
use Rattle.lmt_network.proofs.settle.make_due.Goals.{then-sides_are_live, else-sides_are_live}

pub loop-t-preserved : goal.loop-t-preserved
loop-t-preserved c =
    let n = c.args.net.now in
    let now = c.if-sides_are_live.due in
    let t = slice_index c.args.tris.now c.loop-t.t-index in
    let stay : StayDue c.loop-t.due now = elim c.if-sides_are_live.branch [
      | then-sides_are_live w ↦ subst (StayDue c.loop-t.due) (sym w.due-is) w.make_sides_due.ensures.stay
      | else-sides_are_live w ↦ subst (StayDue c.loop-t.due) (sym w.due-is) (λ e is. is)
    ] in
    let here : AreSidesDue n c.args.live.now t now = elim c.if-sides_are_live.branch [
      | then-sides_are_live w ↦ subst (AreSidesDue n c.args.live.now t) (sym w.due-is) (λ _. w.make_sides_due.ensures.sides)
      | else-sides_are_live w ↦ λ sides. absurd (false≢true (sym w.if-sides_are_live.false ∙ c.sides_are_live.ensures.1 sides))
    ] in (
      λ e is. stay e (c.loop-t.invariant.0 e is),
      below_more _ _ (λ k k_in sides f side. stay f (c.loop-t.invariant.1 k k_in sides f side)) here,
    )

pub returns-clause-each : goal.returns-clause-each
returns-clause-each c = λ t (k, k_in, at_k).
    let is : slice_index c.args.tris.now k ≡ t = get_or_default c.args.tris.now k 0 t k_in ∙ at_k in
    subst (λ (x : ℕ). AreSidesDue c.args.net.now c.args.live.now x c.loop-t.due) is (c.loop-t.invariant.1 k (omega arith))
