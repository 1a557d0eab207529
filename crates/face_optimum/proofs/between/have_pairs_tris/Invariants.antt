use Rattle.std.proofs.Common.{ℕ, ◌<◌}
use Rattle.face_optimum.specs.SeatTables.{HasPairTri}
use Rattle.face_optimum.proofs.between.have_pairs_tris.Given as goal

abbrev pub invariant-loop-e : goal.invariant-loop-e
invariant-loop-e l = (k : ℕ) → k < l.e → HasPairTri l.net l.flags l.off l.edges l.tris k
