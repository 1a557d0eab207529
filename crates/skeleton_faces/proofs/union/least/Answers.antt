-- A shorter way leads to the same least point.
use Rattle.std.proofs.Common.{refl, arith}
use Rattle.skeleton_faces.proofs.Groups.{on_way_next}
use Rattle.skeleton_faces.proofs.union.least.Goals as goal

pub loop-parents-preserved : goal.loop-parents-preserved
loop-parents-preserved c =
    let bound = c.loop-parents.invariant.bound in
    on_way_next c.args.parents.now c.args.p c.loop-parents.parents c.loop-parents.at _ _ c.loop-parents.invariant
    (omega (arith, c.requires.p_in, c.loop-parents.auto.parents)) refl c.loop-parents-test.true refl
