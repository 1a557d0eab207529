-- One slot more is tried, and what a pass leaves.
use Rattle.std.proofs.Common.{arith}
use Rattle.std.proofs.lemmas.Bool.{both_ways}
use Rattle.flip_finish.proofs.Minimal.{IsFlipMinimal-still}
use Rattle.flip_finish.proofs.Shortening.{IsTried-flip, IsTried-skip, IsTried-start, OnFalse_from, OnTrue_from}
use Rattle.flip_finish.proofs.passes.pass.Goals as goal
use Rattle.flip_finish.proofs.passes.pass.Goals.{then-shortens, else-shortens}

pub loop-slot-init : goal.loop-slot-init
loop-slot-init c = IsTried-start c.args.points.now.points c.args.mesh.now c.requires c.slots-slot-end.ensures.whole

pub shortens-requires-clause-in_slots : goal.shortens-requires-clause-in_slots
shortens-requires-clause-in_slots c = omega (arith, c.loop-slot.invariant.shortened.slots, c.slots-slot-end.ensures.value)

pub shortens-requires-clause-within : goal.shortens-requires-clause-within
shortens-requires-clause-within c = c.loop-slot.invariant.within

pub loop-slot-preserved : goal.loop-slot-preserved
loop-slot-preserved c =
    let ps = c.args.points.now.points in
    let old = c.args.mesh.now in
    let n = c.loop-slot.slot in
    elim c.if-shortens.branch [
      | then-shortens w ↦ rw (w.mesh-is, w.flipped-is)
          (IsTried-flip ps old c.loop-slot.mesh _ n c.loop-slot.flipped c.loop-slot.invariant w.flip.ensures.shortened w.flip.ensures.whole w.flip.ensures.falls)
      | else-shortens w ↦ rw (w.mesh-is, w.flipped-is)
          (IsTried-skip ps old c.loop-slot.mesh n c.loop-slot.flipped c.loop-slot.invariant
          (λ s. both_ways _ w.if-shortens.false (c.shortens.ensures.1 s)))
    ]

pub returns-clause-shortened : goal.returns-clause-shortened
returns-clause-shortened c = c.loop-slot.invariant.shortened

pub returns-clause-falls : goal.returns-clause-falls
returns-clause-falls c = OnTrue_from c.loop-slot.flipped _ c.loop-slot.invariant.falls

pub returns-clause-minimal : goal.returns-clause-minimal
returns-clause-minimal c =
    let tried = c.loop-slot.invariant in
    OnFalse_from c.loop-slot.flipped _
    (λ e hull of_hull. IsFlipMinimal-still c.args.points.now.points hull c.loop-slot.mesh tried.whole of_hull
    (λ p l. tried.none e p (omega (arith, tried.shortened.slots, c.slots-slot-end.ensures.value, c.loop-slot.auto.slot-end, l))))
