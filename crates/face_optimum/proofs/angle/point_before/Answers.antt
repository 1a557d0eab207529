-- Before the first place comes the last.
use Rattle.std.proofs.Common.{sym, arith}
use Rattle.face_optimum.proofs.RingPlaces.{before_first}
use Rattle.face_optimum.proofs.angle.point_before.Goals as goal

pub returns-else-place-gt0 : goal.returns-else-place-gt0
returns-else-place-gt0 c = sym (before_first c.args.ring.now c.args.place (omega arith) (omega arith))
