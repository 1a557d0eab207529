use Rattle.std.proofs.Common.{ℕ, ◌-◌, ◌<◌, length}
use Rattle.face_optimum.specs.Places.{face_at}
use Rattle.face_optimum.specs.SeatTables.{HasSeatBetween}
use Rattle.face_optimum.proofs.between.have_roots_tris.Given as goal

abbrev pub invariant-loop-face : goal.invariant-loop-face
invariant-loop-face l = (f : ℕ) → f < l.face → HasSeatBetween l.net l.flags l.tris (record { face = f; first = 0; last = length (face_at l.rings f) - 1 })
