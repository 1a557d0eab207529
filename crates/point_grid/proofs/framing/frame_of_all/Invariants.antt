use Rattle.point_grid.specs.Frames.{IsFrameOf}
use Rattle.point_grid.proofs.framing.frame_of_all.Given as goal

abbrev pub invariant-loop-r : goal.invariant-loop-r
invariant-loop-r l = IsFrameOf l.points.points l.r l.frame
