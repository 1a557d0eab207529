use Rattle.empty_triangles.proofs.Thirds.{AreThirdsTo}
use Rattle.empty_triangles.proofs.fan.thirds_among.Given as goal

abbrev pub invariant-loop-t : goal.invariant-loop-t
invariant-loop-t l = AreThirdsTo l.points.points l.edges l.corner.a l.corner.heads.items l.j l.places l.t l.thirds.items
