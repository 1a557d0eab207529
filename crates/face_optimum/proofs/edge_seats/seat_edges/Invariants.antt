use Rattle.std.proofs.Common.{◌<◌}
use Rattle.face_optimum.specs.SeatTables.{AreSeated}
use Rattle.face_optimum.proofs.edge_seats.seat_edges.Given as goal

abbrev pub invariant-loop-face : goal.invariant-loop-face
invariant-loop-face l = AreSeated l.net l.rings l.off (λ s. s.face < l.face) l.fn.seats l.seats
