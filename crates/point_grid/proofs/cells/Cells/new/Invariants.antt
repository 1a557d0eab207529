use Rattle.point_grid.proofs.Filling.{AreFilled}
use Rattle.point_grid.proofs.cells.Cells.new.Given as goal

abbrev pub invariant-loop-r : goal.invariant-loop-r
invariant-loop-r l = AreFilled l.points.points l.side l.frame l.r l.lists.items
