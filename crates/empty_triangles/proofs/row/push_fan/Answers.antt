use Rattle.std.proofs.Common.{refl, arith}
use Rattle.empty_triangles.proofs.Lists.{IsFanAddedTo-none, IsFanAddedTo-push, IsFanAdded-all}
use Rattle.empty_triangles.proofs.row.push_fan.Goals as goal

pub loop-i-init : goal.loop-i-init
loop-i-init c = IsFanAddedTo-none _ _ _ _

pub loop-i-preserved : goal.loop-i-preserved
loop-i-preserved c =
    rw c.in_ok-push.ensures.items
    (IsFanAddedTo-push _ _ _ c.loop-i.i _ _ _ refl refl refl c.loop-i.invariant)

pub returns : goal.returns
returns c = IsFanAdded-all _ _ _ c.loop-i.i _ _ (omega arith) (omega arith) c.loop-i.invariant
