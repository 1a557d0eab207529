use Rattle.std.proofs.Common.{◌<◌}
use Rattle.face_optimum.specs.SeatTables.{AreSidesSeated}
use Rattle.face_optimum.proofs.side_seats.seat_sides.Given as goal

abbrev pub invariant-loop-face : goal.invariant-loop-face
invariant-loop-face l = AreSidesSeated l.net l.rings (λ s. s.face < l.face) l.fn.seats l.seats
