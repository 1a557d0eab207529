use Rattle.std.proofs.Common.{List, length, subst, sym}
use Rattle.exact_predicates.specs.declared.point.Point.{Point}
use Rattle.point_grid.specs.Cells.{IsCell, IsCellNumber}
use Rattle.point_grid.proofs.CellLists.{cell_read}
use Rattle.point_grid.proofs.grid.Grid.cell.Goals as goal

pub returns : goal.returns
returns c =
    let number = subst (λ (ps : List Point). IsCellNumber (length ps) c.args.c) (sym c.self.view_is) c.requires in
    subst (λ (ps : List Point). IsCell ps c.args.c c.deref.result.now) c.self.view_is
    (cell_read _ c.self.inside.cells c.self.invariant.1 c.args.c _ _ number c.index.ensures c.deref.ensures.value)
