use Rattle.std.proofs.Common.{◌≡◌, ◌<◌}
use Rattle.face_optimum.specs.SeatTables.{AreSidesSeated}
use Rattle.face_optimum.proofs.side_seats.seat_sides_of.Given as goal

abbrev pub invariant-loop-place : goal.invariant-loop-place
invariant-loop-place l = AreSidesSeated l.net l.rings (λ s. (s.face ≡ l.face) × (s.place < l.place)) l.fn.seats l.seats
