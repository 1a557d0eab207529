use Rattle.skeleton_faces.proofs.Directions.{AreBuilt}
use Rattle.skeleton_faces.proofs.rays.rays.Given as goal

abbrev pub invariant-loop-number : goal.invariant-loop-number
invariant-loop-number l = AreBuilt l.points l.edges l.number l.rays.items
