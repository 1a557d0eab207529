use Rattle.point_grid.specs.Cells.{AreEmptyLists}
use Rattle.point_grid.proofs.cells.no_lists.Given as goal

abbrev pub invariant-loop-turn : goal.invariant-loop-turn
invariant-loop-turn l = AreEmptyLists l._turn l.lists.items
