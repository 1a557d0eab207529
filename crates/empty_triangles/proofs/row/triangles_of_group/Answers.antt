use Rattle.std.proofs.Common.{arith}
use Rattle.empty_triangles.proofs.Lists.{with_no_corner, with_next_corner, with_all_corners}
use Rattle.empty_triangles.proofs.row.triangles_of_group.Goals as goal

pub loop-a-init : goal.loop-a-init
loop-a-init c = rw c.new-tris.ensures.items (with_no_corner _ _ c.args.group _ (omega arith))

pub loop-a-preserved : goal.loop-a-preserved
loop-a-preserved c =
    rw (c.in_ok-extend_from_slice.ensures.items, c.deref.ensures.value)
    (with_next_corner _ _ c.args.group c.loop-a.a _ _ (omega arith) (omega arith) c.loop-a.invariant (rw c.in_ok-corner.ensures.a at c.in_ok-fill_triangles.ensures))

pub returns : goal.returns
returns c = with_all_corners _ _ c.args.group c.loop-a.a _ (λ l. omega arith) c.loop-a.invariant
