use Rattle.std.proofs.Common.{length}
use Rattle.point_grid.proofs.box_tree.+grow.Given as goal

abbrev pub decreases-grow : goal.decreases-grow
decreases-grow l = length l.others.now
