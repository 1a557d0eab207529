use Rattle.std.proofs.Common.{ℕ, ◌<◌, ◌≤◌, length}
use Rattle.exact_predicates.specs.PointSet.{point_at}
use Rattle.point_grid.specs.Cells.{column_of}
use Rattle.point_grid.specs.Regions.{Lies}
use Rattle.point_grid.proofs.search.first_in.Given as goal

abbrev pub invariant-loop-column : goal.invariant-loop-column
invariant-loop-column l =
    (r : ℕ) → r < length l.points → Lies l.region r (point_at l.points r) → l.column ≤ column_of l.cells.side l.cells.frame (point_at l.points r)
