use Rattle.std.proofs.Common.{◌≤◌, length}
use Rattle.point_grid.specs.Gathered.{AreGathered}
use Rattle.point_grid.proofs.box_tree.BoxTree.gather.Given as goal

abbrev pub invariant-loop-end : goal.invariant-loop-end
invariant-loop-end l = (l.end ≤ length l.self) × AreGathered l.self l.reach.window l.end l.numbers.items

abbrev pub decreases-loop-end : goal.decreases-loop-end
decreases-loop-end l = l.end
