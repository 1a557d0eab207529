use Rattle.std.proofs.Common.{arith}
use Rattle.point_grid.proofs.CellLists.{cell_list, cell_small, sides_few}
use Rattle.point_grid.proofs.CellNumbers.{cell_within}
use Rattle.point_grid.proofs.ColumnSearch.{row_next}
use Rattle.point_grid.proofs.LeastNumbers.{IsFirst-same}
use Rattle.point_grid.specs.Regions.{LiesInColumn}
use Rattle.point_grid.proofs.search.first_in_column.Goals as goal

pub overflow_mul-row : goal.overflow_mul-row
overflow_mul-row c = let m = cell_small c.args.cells.now.side c.loop-row.row c.args.column (sides_few _ _ c.requires.cells c.requires.points) (omega arith) c.requires.column_in in omega arith

pub overflow_add-row : goal.overflow_add-row
overflow_add-row c = let m = cell_small c.args.cells.now.side c.loop-row.row c.args.column (sides_few _ _ c.requires.cells c.requires.points) (omega arith) c.requires.column_in in omega arith

pub first_of-requires-clause-ascending : goal.first_of-requires-clause-ascending
first_of-requires-clause-ascending c =
    (cell_list _ _ c.requires.cells _ _ _ (cell_within c.args.cells.now.side c.loop-row.row c.args.column (omega arith) c.requires.column_in) c.index-numbers.ensures c.deref.ensures.value).ascending

pub first_of-requires-clause-within : goal.first_of-requires-clause-within
first_of-requires-clause-within c =
    (cell_list _ _ c.requires.cells _ _ _ (cell_within c.args.cells.now.side c.loop-row.row c.args.column (omega arith) c.requires.column_in) c.index-numbers.ensures c.deref.ensures.value).are

pub loop-row-preserved : goal.loop-row-preserved
loop-row-preserved c =
    let list = cell_list _ _ c.requires.cells _ _ _ (cell_within c.args.cells.now.side c.loop-row.row c.args.column (omega arith) c.requires.column_in) c.index-numbers.ensures c.deref.ensures.value in (
      rw c.lesser-least.ensures (row_next _ _ c.args.region.now c.requires.points c.requires.cells c.args.column c.args.rows.now.first c.loop-row.row _ _ _ c.requires.column_in c.loop-row.auto.row list c.loop-row.invariant.0 c.first_of.ensures),
      λ l. omega arith,
    )

pub returns : goal.returns
returns c =
    let up = c.loop-row.invariant.1 in
    IsFirst-same _ (LiesInColumn c.args.points.now c.args.cells.now.side c.args.cells.now.frame c.args.region.now c.args.column c.args.rows.now.first c.loop-row.row) _ _
    (λ r l f. let t = f.to in let m = f.from in let most = up (omega arith) in record { lies = f.lies; column_is = f.column_is; from = f.from; to = omega arith })
    (λ r l f. let t = f.to in record { lies = f.lies; column_is = f.column_is; from = f.from; to = omega arith })
    c.loop-row.invariant.0
