use Rattle.face_optimum.specs.SeatTables.{AreTriSeats}
use Rattle.face_optimum.proofs.tri_seats.list_seats.Given as goal

abbrev pub invariant-loop-t : goal.invariant-loop-t
invariant-loop-t l = AreTriSeats l.net l.flags l.rings l.off l.t l.seats.items
