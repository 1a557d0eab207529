use Rattle.std.proofs.Common.{ℕ, ◌<◌, slice_index}
use Rattle.face_optimum.specs.SeatTables.{IsLiveBetween}
use Rattle.face_optimum.proofs.between.has_between.Given as goal

abbrev pub invariant-loop-t : goal.invariant-loop-t
invariant-loop-t l = (k : ℕ) → k < l.t-index → ¬ IsLiveBetween l.net l.flags l.tris l.seat (slice_index l.row k)
