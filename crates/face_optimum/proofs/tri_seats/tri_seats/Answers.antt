-- By the places of all sides.
use Rattle.std.proofs.Common.{sym, subst}
use Rattle.face_optimum.specs.SeatTables.{AreAllSides}
use Rattle.face_optimum.proofs.tri_seats.tri_seats.Goals as goal

pub list_seats-requires-clause-sides_are : goal.list_seats-requires-clause-sides_are
list_seats-requires-clause-sides_are c = subst (AreAllSides c.args.net.now c.args.rings.now) (sym c.deref.ensures.value) c.in_ok-sides.ensures
