-- Each edge so far, or one that has none.
use Rattle.std.proofs.Common.{refl, sym, ◌∙◌, arith, below_more}
use Rattle.std.proofs.lemmas.Bool.{false≢true}
use Rattle.face_optimum.specs.SeatTables.{HasPairTri}
use Rattle.face_optimum.proofs.between.have_pairs_tris.Goals as goal

pub returns-then-not-has_pair_tri : goal.returns-then-not-has_pair_tri
returns-then-not-has_pair_tri c = (
  λ h. absurd (false≢true h),
  λ every. absurd (false≢true (sym c.if-not-has_pair_tri.true ∙ c.has_pair_tri.ensures.1 (every c.loop-e.e (omega (arith, c.loop-e-test.true, c.edges-e-end.ensures.value))))),
)

pub loop-e-preserved : goal.loop-e-preserved
loop-e-preserved c =
    below_more (HasPairTri c.args.net.now c.args.flags.now c.args.off.now c.args.edges.now c.args.tris.now) c.loop-e.e c.loop-e.invariant (c.has_pair_tri.ensures.0 c.if-not-has_pair_tri.false)

pub returns : goal.returns
returns c = (λ _ e e_in. c.loop-e.invariant e (omega (arith, e_in, c.loop-e-test.false, c.edges-e-end.ensures.value)), λ _. refl)
