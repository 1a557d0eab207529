use Rattle.flip_claims.proofs.Nearing.{AreTrianglesTo}
use Rattle.flip_claims.proofs.near.triangles_of.Given as goal

abbrev pub invariant-loop-slot : goal.invariant-loop-slot
invariant-loop-slot l = AreTrianglesTo l.mesh l.slots l.triangles.items l.slot-index
