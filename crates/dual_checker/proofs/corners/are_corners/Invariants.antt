use Rattle.std.proofs.Common.{ℕ, ◌<◌}
use Rattle.dual_checker.specs.Corners.{IsCornerIn}
use Rattle.dual_checker.proofs.corners.are_corners.Given as goal

abbrev pub invariant-loop-x : goal.invariant-loop-x
invariant-loop-x l = (k : ℕ) → k < l.x → IsCornerIn l.tris k
