use Rattle.std.proofs.Common.{ℕ, Vec, Global, [], ◌∷◌, ◌++◌, arith, sym, ap, ◌∙◌}
use Rattle.point_grid.proofs.CellNumbers.{side_made}
use Rattle.point_grid.proofs.Filling.{AreFilled-push_at, cells_made}
use Rattle.point_grid.proofs.cells.Cells.new.Goals as goal

pub loop-r-preserved : goal.loop-r-preserved
loop-r-preserved c =
    let is = rw c.at.ensures.value at c.cell_at-c.ensures.is in
    AreFilled-push_at _ _ _ c.loop-r.r c.loop-r.lists.items c.push.new.self c.index_mut.result.now c.cell_at-c.result (sym is) c.cell_at-c.ensures.within
    (c.in_ok-push.ensures.items ∙ ap (λ (v : Vec ℕ Global). v.items ++ c.loop-r.r ∷ []) c.index_mut.ensures.value)
    c.loop-r.invariant

pub returns : goal.returns
returns c =
    let count = c.len-count.ensures.value in
    let enough = c.len-count.ensures.valid.enough in
    let side = side_made c.len-count.result c.isqrt-side.result (omega arith) c.isqrt-side.ensures.square_le c.isqrt-side.ensures.next_square_gt in
    cells_made _ _ (rw count at side) c.frame_of_all-frame.ensures c.loop-r.r (omega arith) c.loop-r.invariant
