-- As many sides as the hull has pairs, and each of them one of these.
use Rattle.std.proofs.Common.{length}
use Rattle.std.proofs.lemmas.Bool.Decides.{Decides-eqb}
use Rattle.face_optimum.proofs.Rims.{length_rim, rim_from}
use Rattle.face_optimum.proofs.rim.is_rim.Goals as goal

pub returns-then-cycle-hull : goal.returns-then-cycle-hull
returns-then-cycle-hull c = (
  λ back. rim_from c.args.hull.now c.args.cycle.now c.requires.once c.if-cycle-hull.true (c.goes_back.ensures.0 back),
  λ rim. c.goes_back.ensures.1 rim.only,
)

pub returns-else-cycle-hull : goal.returns-else-cycle-hull
returns-else-cycle-hull c = (
  λ h. absurd (c.if-cycle-hull.false ((Decides-eqb (length c.args.cycle.now) (length c.args.hull.now)).0 h)),
  λ rim. absurd (c.if-cycle-hull.false (length_rim c.args.hull.now c.args.cycle.now c.requires.distinct c.requires.once rim)),
)
