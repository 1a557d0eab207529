use Rattle.face_optimum.proofs.OffSkeleton.{AreOffSoFar}
use Rattle.face_optimum.proofs.off.off_skeleton.Given as goal

abbrev pub invariant-loop-edge : goal.invariant-loop-edge
invariant-loop-edge l = AreOffSoFar l.net l.flags l.skeleton l.edge-index l.off.items
