use Rattle.point_grid.proofs.Growing.{Grows-more}
use Rattle.point_grid.proofs.box_tree.push_leaves.Goals as goal

pub loop-s-preserved : goal.loop-s-preserved
loop-s-preserved c = rw c.in_ok-push.ensures.items (Grows-more _ _ c.args.spots.now c.loop-s.s-index _ c.loop-s-test.true c.s-item.is c.loop-s.invariant)
