use Rattle.std.proofs.Common.{refl}
use Rattle.dual_checker.proofs.Deciding.{fitting_decides}
use Rattle.dual_checker.proofs.triangulation.are_fitting.Goals as goal

pub returns-in-Flips : goal.returns-in-Flips
returns-in-Flips c =
    fitting_decides c.args.points.now.points c.args.halves.now c.args.rim.now c.args.method c.is_minimal.result
    (c.is_covered.ensures.0 c.if-not-is_covered.false) (c.is_balanced.ensures.0 c.if-not-is_balanced.false)
    (λ t _. c.is_minimal.ensures.0 t, λ f. c.is_minimal.ensures.1 (f c.in-Flips.is))

pub returns-in-Faces : goal.returns-in-Faces
returns-in-Faces c =
    fitting_decides c.args.points.now.points c.args.halves.now c.args.rim.now c.args.method _
    (c.is_covered.ensures.0 c.if-not-is_covered.false) (c.is_balanced.ensures.0 c.if-not-is_balanced.false)
    (λ t flips. absurd cc, λ f. refl)
