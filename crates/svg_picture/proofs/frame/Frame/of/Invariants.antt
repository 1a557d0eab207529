use Rattle.std.proofs.Common.{◌≡◌, take}
use Rattle.std.specs.Prelude.{fold}
use Rattle.exact_predicates.specs.PointSet.{point_at}
use Rattle.svg_picture.specs.Frames.{IsFrameInRange, frame_at, with_point}
use Rattle.svg_picture.proofs.frame.Frame.of.Given as goal

abbrev pub invariant-loop-p : goal.invariant-loop-p
invariant-loop-p l = record {
  so_far : l.frame ≡ fold with_point (frame_at (point_at l.points 0)) (take l.p-index l.points);
  in_range : IsFrameInRange l.frame;
}
