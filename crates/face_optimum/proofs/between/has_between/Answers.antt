-- One triangle of the row, or none.
use Rattle.std.proofs.Common.{◌≡◌, slice_index, sym, ◌∙◌, subst, arith, refl}
use Rattle.std.proofs.lemmas.Bool.{false≢true}
use Rattle.std.proofs.lemmas.List.{get_or_default}
use Rattle.std.proofs.lemmas.List.Elements.{Contains-get_or}
use Rattle.face_optimum.specs.SeatTables.{IsLiveBetween}
use Rattle.face_optimum.proofs.between.has_between.Goals as goal

pub returns-then-is_live_between : goal.returns-then-is_live_between
returns-then-is_live_between c = (
  λ _. (slice_index c.args.row.now c.loop-t.t-index, Contains-get_or c.args.row.now c.loop-t.t-index 0 c.loop-t-test.true, c.is_live_between.ensures.0 c.if-is_live_between.true),
  λ _. refl,
)

pub returns : goal.returns
returns c = (
  λ h. absurd (false≢true h),
  λ (t, (k, k_in, at_k), live).
      let is : slice_index c.args.row.now k ≡ t = get_or_default c.args.row.now k 0 t k_in ∙ at_k in
      absurd (c.loop-t.invariant k (omega arith) (subst (IsLiveBetween c.args.net.now c.args.flags.now c.args.tris.now c.args.seat) (sym is) live)),
)
