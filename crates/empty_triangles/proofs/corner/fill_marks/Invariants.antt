use Rattle.empty_triangles.proofs.Corners.{AreMarkedTo}
use Rattle.empty_triangles.proofs.corner.fill_marks.Given as goal

abbrev pub invariant-loop-k : goal.invariant-loop-k
invariant-loop-k l = AreMarkedTo l.row l.heads l.k l.marks.items
