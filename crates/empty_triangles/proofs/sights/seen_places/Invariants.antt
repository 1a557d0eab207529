use Rattle.empty_triangles.specs.Rays.{AreLists}
use Rattle.empty_triangles.proofs.sights.seen_places.Given as goal

abbrev pub invariant-loop-j : goal.invariant-loop-j
invariant-loop-j l = AreLists l.points.points l.heads l.j l.seen.items
