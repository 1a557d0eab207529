use Rattle.flip_claims.proofs.Nearing.{AreAroundTo}
use Rattle.flip_claims.proofs.near.with_sides.Given as goal

abbrev pub invariant-loop-t : goal.invariant-loop-t
invariant-loop-t l = AreAroundTo l.mesh l.slots l.triangles l.near.items l.t-index
