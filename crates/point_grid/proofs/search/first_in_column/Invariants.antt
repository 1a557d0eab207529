use Rattle.std.proofs.Common.{◌<◌, ◌≤◌, length}
use Rattle.point_grid.specs.First.{IsFirst}
use Rattle.point_grid.specs.Regions.{LiesInColumn}
use Rattle.point_grid.proofs.search.first_in_column.Given as goal

abbrev pub invariant-loop-row : goal.invariant-loop-row
invariant-loop-row l =
    (IsFirst (length l.points) (LiesInColumn l.points l.cells.side l.cells.frame l.region l.column l.rows.first l.row) l.least)
    × (l.rows.first < l.row → l.row ≤ l.rows.end)
