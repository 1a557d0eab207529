use Rattle.skeleton_faces.proofs.Groups.{IsOnWay}
use Rattle.skeleton_faces.proofs.union.least.Given as goal

abbrev pub invariant-loop-parents : goal.invariant-loop-parents
invariant-loop-parents l = IsOnWay l.fn.parents l.p l.parents l.at

abbrev pub decreases-loop-parents : goal.decreases-loop-parents
decreases-loop-parents l = l.at
