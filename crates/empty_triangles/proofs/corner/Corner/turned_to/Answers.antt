use Rattle.empty_triangles.proofs.Corners.{IsCorner-window}
use Rattle.empty_triangles.proofs.Heads.{turning_heads}
use Rattle.empty_triangles.proofs.corner.Corner.turned_to.Goals as goal

pub seen_places-requires-clause-heads : goal.seen_places-requires-clause-heads
seen_places-requires-clause-heads c = rw c.deref-6.ensures.value (turning_heads _ _ _ _ c.in_ok-order.ensures.ordered (rw c.deref-3.ensures.value at c.in_ok-fill_heads.ensures))

pub returns-clause-is : goal.returns-clause-is
returns-clause-is c =
    IsCorner-window _ _ _ _ _ _ _ _ c.len.ensures.valid c.requires.a_in c.in_ok-fill_row.ensures (rw c.deref.ensures.value at c.window_around-window.ensures) c.in_ok-in_window.ensures
    (rw c.deref-2.ensures.value at c.in_ok-order.ensures.same) c.in_ok-order.ensures.ordered (rw c.deref-3.ensures.value at c.in_ok-fill_heads.ensures)
