use Rattle.empty_triangles.proofs.Passes.{AreSeenFrom}
use Rattle.empty_triangles.proofs.sights.fill_seen.Given as goal

abbrev pub invariant-loop-i : goal.invariant-loop-i
invariant-loop-i l = AreSeenFrom l.points.points l.heads l.j l.i l.last l.places.items
