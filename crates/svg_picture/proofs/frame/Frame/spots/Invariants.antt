use Rattle.std.proofs.Common.{◌≡◌, map, take}
use Rattle.svg_picture.specs.Frames.{spot_in}
use Rattle.svg_picture.proofs.frame.Frame.spots.Given as goal

abbrev pub invariant-loop-p : goal.invariant-loop-p
invariant-loop-p l = l.spots.items ≡ map (spot_in l.self) (take l.p-index l.points)
