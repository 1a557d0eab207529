-- Two cycles are none that is alone.
use Rattle.std.proofs.Common.{sym, ap, ◌∙◌, arith}
use Rattle.face_optimum.specs.Decomposition.{is_outer}
use Rattle.face_optimum.proofs.Rims.{found_another}
use Rattle.face_optimum.proofs.rim.left_out.Goals as goal

pub returns-then-is_some : goal.returns-then-is_some
returns-then-is_some c =
    found_another c.args.hull.now c.args.faces.now c.loop-i.i c.loop-i.found (omega arith)
    (sym (ap (is_outer c.args.hull.now) c.cycle.ensures) ∙ (sym c.is_outer.ensures ∙ c.if-is_outer.true))
    (sym c.is_some.ensures ∙ c.if-is_some.true) c.loop-i.invariant
