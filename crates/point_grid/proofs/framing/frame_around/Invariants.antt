use Rattle.std.proofs.Common.{ℕ, ◌<◌, slice_index_or}
use Rattle.point_grid.specs.declared.spot.Spot.{Spot}
use Rattle.point_grid.specs.Frames.{IsInFrame}
use Rattle.point_grid.proofs.framing.frame_around.Given as goal

abbrev pub invariant-loop-s : goal.invariant-loop-s
invariant-loop-s l = IsInFrame l.frame l.head.point × ((k : ℕ) (d : Spot) → k < l.s-index → IsInFrame l.frame (slice_index_or l.others k d).point)
