use Rattle.std.proofs.Common.{◌≡◌, vec_len}
use Rattle.point_grid.specs.Numbered.{AreFirst}
use Rattle.point_grid.proofs.box_tree.spots_of.Given as goal

abbrev pub invariant-loop-number : goal.invariant-loop-number
invariant-loop-number l = (vec_len l.spots ≡ l.number) × AreFirst l.points.points l.spots.items
