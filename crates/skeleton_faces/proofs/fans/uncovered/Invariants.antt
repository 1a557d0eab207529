use Rattle.skeleton_faces.proofs.Passing.{IsPassed}
use Rattle.skeleton_faces.proofs.fans.uncovered.Given as goal

abbrev pub invariant-loop-place : goal.invariant-loop-place
invariant-loop-place l = IsPassed l.net l.flags l.e-items l.reaches l.place l.far l.uncovered.items
