use Rattle.face_optimum.proofs.Rims.{IsFoundSoFar}
use Rattle.face_optimum.proofs.rim.left_out.Given as goal

abbrev pub invariant-loop-i : goal.invariant-loop-i
invariant-loop-i l = IsFoundSoFar l.hull l.faces l.i l.found
