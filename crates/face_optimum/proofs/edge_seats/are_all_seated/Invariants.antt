use Rattle.std.proofs.Common.{◌≡◌, ℕ, ◌<◌, true, false, slice_index_or}
use Rattle.std.specs.Option.{IsSome}
use Rattle.face_optimum.specs.SeatTables.{seat_at}
use Rattle.face_optimum.proofs.edge_seats.are_all_seated.Given as goal

abbrev pub invariant-loop-e : goal.invariant-loop-e
invariant-loop-e l = (k : ℕ) → k < l.e → slice_index_or l.off k false ≡ true → IsSome (seat_at l.seats k)
