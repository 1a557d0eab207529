-- The edge is found.
use Rattle.std.proofs.Common.{refl}
use Rattle.face_optimum.proofs.number.number.Goals as goal

pub unreachable-requires : goal.unreachable-requires
unreachable-requires c = c.in-None.ensures.none.0 refl c.requires
