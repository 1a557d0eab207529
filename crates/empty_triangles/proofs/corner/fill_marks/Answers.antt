use Rattle.std.proofs.Common.{arith}
use Rattle.empty_triangles.proofs.Corners.{AreMarkedTo-push}
use Rattle.empty_triangles.proofs.corner.fill_marks.Goals as goal

pub loop-k-preserved : goal.loop-k-preserved
loop-k-preserved c =
    rw c.in_ok-push.ensures.items
    (AreMarkedTo-push _ _ _ _ _ c.loop-k.invariant c.has_number.ensures)

pub returns : goal.returns
returns c =
    let h = c.loop-k.invariant in
    record { count = omega (arith, h.count); each = λ k k_in. h.each k (omega arith) }
