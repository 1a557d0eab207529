use Rattle.std.proofs.Common.{arith, sym, ◌∙◌}
use Rattle.exact_predicates.specs.PointSet.{point_at}
use Rattle.point_grid.proofs.CellLists.{sides_few}
use Rattle.point_grid.proofs.ColumnSearch.{column_found, column_passed}
use Rattle.point_grid.proofs.PartsMet.{part_from, part_to}
use Rattle.point_grid.proofs.search.first_in.Goals as goal

pub parts_between-columns-requires-clause-few : goal.parts_between-columns-requires-clause-few
parts_between-columns-requires-clause-few c = let few = sides_few _ _ c.requires.cells c.requires.points in omega arith

pub parts_between-rows-requires-clause-few : goal.parts_between-rows-requires-clause-few
parts_between-rows-requires-clause-few c = let few = sides_few _ _ c.requires.cells c.requires.points in omega arith

pub loop-column-init : goal.loop-column-init
loop-column-init c = λ r l lies.
    let f = c.args.cells.now.frame in
    let b = c.bounds-bounds.result in
    let x = (point_at c.args.points.now r).x in
    let i = c.requires.cells.is_frame.has r l in
    let w = c.bounds-bounds.ensures r (point_at c.args.points.now r) lies in
    part_from c.args.cells.now.side f.left f.right x f.left_in f.right_in i.left i.right b.left c.parts_between-columns.result.first b.left_in c.parts_between-columns.ensures.first w.left

pub loop-column-preserved : goal.loop-column-preserved
loop-column-preserved c =
    column_passed _ _ c.args.region.now c.requires.points c.requires.cells c.loop-column.column c.parts_between-rows.result.first c.parts_between-rows.result.end
    (λ r l lies.
    let f = c.args.cells.now.frame in
    let b = c.bounds-bounds.result in
    let y = (point_at c.args.points.now r).y in
    let i = c.requires.cells.is_frame.has r l in
    let w = c.bounds-bounds.ensures r (point_at c.args.points.now r) lies in (
      part_from c.args.cells.now.side f.low f.high y f.low_in f.high_in i.low i.high b.low c.parts_between-rows.result.first b.low_in c.parts_between-rows.ensures.first w.low,
      part_to c.args.cells.now.side f.low f.high y f.low_in f.high_in i.low i.high b.high c.parts_between-rows.result.end b.high_in c.parts_between-rows.ensures.end w.high,
    ))
    c.loop-column.invariant _ (λ t. let no = c.if-is_some.false in let is = c.is_some.ensures in cc) c.first_in_column-least.ensures

pub returns-then-is_some : goal.returns-then-is_some
returns-then-is_some c =
    column_found _ _ c.args.region.now c.requires.points c.requires.cells c.loop-column.column c.parts_between-rows.result.first c.parts_between-rows.result.end
    (λ r l lies.
    let f = c.args.cells.now.frame in
    let b = c.bounds-bounds.result in
    let y = (point_at c.args.points.now r).y in
    let i = c.requires.cells.is_frame.has r l in
    let w = c.bounds-bounds.ensures r (point_at c.args.points.now r) lies in (
      part_from c.args.cells.now.side f.low f.high y f.low_in f.high_in i.low i.high b.low c.parts_between-rows.result.first b.low_in c.parts_between-rows.ensures.first w.low,
      part_to c.args.cells.now.side f.low f.high y f.low_in f.high_in i.low i.high b.high c.parts_between-rows.result.end b.high_in c.parts_between-rows.ensures.end w.high,
    ))
    c.loop-column.invariant _ (sym c.is_some.ensures ∙ c.if-is_some.true) c.first_in_column-least.ensures

pub returns : goal.returns
returns c = λ r l lies.
    let f = c.args.cells.now.frame in
    let b = c.bounds-bounds.result in
    let x = (point_at c.args.points.now r).x in
    let i = c.requires.cells.is_frame.has r l in
    let w = c.bounds-bounds.ensures r (point_at c.args.points.now r) lies in
    let past = part_to c.args.cells.now.side f.left f.right x f.left_in f.right_in i.left i.right b.right c.parts_between-columns.result.end b.right_in c.parts_between-columns.ensures.end w.right in
    let up = c.loop-column.invariant r l lies in
    omega arith
