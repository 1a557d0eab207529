use Rattle.std.proofs.Common.{◌≡◌, ◌<◌}
use Rattle.face_optimum.specs.SeatTables.{AreSeated}
use Rattle.face_optimum.proofs.edge_seats.seat_from.Given as goal

abbrev pub invariant-loop-last : goal.invariant-loop-last
invariant-loop-last l = AreSeated l.net l.rings l.off (λ s. (s.face ≡ l.face) × (s.first ≡ l.first) × (s.last < l.last)) l.fn.seats l.seats
