use Rattle.empty_triangles.proofs.Seen.{AreSeenTo}
use Rattle.empty_triangles.proofs.sights.seen_from.Given as goal

abbrev pub invariant-loop-places : goal.invariant-loop-places
invariant-loop-places l = AreSeenTo l.points.points l.heads l.j l.k l.places.items

abbrev pub decreases-loop-places : goal.decreases-loop-places
decreases-loop-places l = l.k
