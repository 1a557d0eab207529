use Rattle.std.proofs.Common.{◌≡◌, ◌<◌}
use Rattle.face_optimum.specs.SeatTables.{AreSeated}
use Rattle.face_optimum.proofs.edge_seats.seat_in_face.Given as goal

abbrev pub invariant-loop-first : goal.invariant-loop-first
invariant-loop-first l = AreSeated l.net l.rings l.off (λ s. (s.face ≡ l.face) × (s.first < l.first)) l.fn.seats l.seats
