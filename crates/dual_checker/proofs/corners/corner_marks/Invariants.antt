use Rattle.std.proofs.Common.{take}
use Rattle.dual_checker.specs.Corners.{AreCornerMarks}
use Rattle.dual_checker.proofs.corners.corner_marks.Given as goal

abbrev pub invariant-loop-tri : goal.invariant-loop-tri
invariant-loop-tri l = AreCornerMarks l.count (take l.tri-index l.tris) l.marks.items
