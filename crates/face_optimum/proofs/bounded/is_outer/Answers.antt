-- The side is at a place, or at none.
use Rattle.std.proofs.Common.{sym, arith}
use Rattle.face_optimum.proofs.BoundedFaces.{outer_no, outer_yes}
use Rattle.face_optimum.proofs.bounded.is_outer.Goals as goal

pub returns-then-next_point-hull : goal.returns-then-next_point-hull
returns-then-next_point-hull c = sym (outer_yes c.args.hull.now c.args.cycle.now c.loop-place.place (omega arith) (omega arith) (omega (arith, c.next_point.ensures)))

pub returns : goal.returns
returns c = sym (outer_no c.args.hull.now c.args.cycle.now (λ k k_in. c.loop-place.invariant k (omega arith)))
