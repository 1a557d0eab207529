use Rattle.std.proofs.Common.{get_or, arith}
use Rattle.std.proofs.lemmas.Bool.{both_ways}
use Rattle.flip_finish.specs.Flipping.{Shortens}
use Rattle.flip_claims.proofs.Members.{stands_at}
use Rattle.flip_claims.proofs.Picking.{picked_end, picked_more, picked_same}
use Rattle.flip_claims.proofs.winners.shortening.Goals as goal
use Rattle.flip_claims.proofs.winners.shortening.Goals.{then-shortens+in_ok-push, else-shortens}

pub loop-slot-preserved : goal.loop-slot-preserved
loop-slot-preserved c =
    let P = Shortens c.args.points.now.points c.args.mesh.now in
    let slots = c.args.slots.now in
    let k = c.loop-slot.slot-index in
    let here = stands_at slots k c.loop-slot-test.true in
    elim c.if-shortens.branch [
      | then-shortens+in_ok-push w ↦ rw (w.found-is, w.in_ok-push.ensures.items)
          (picked_more P slots c.loop-slot.found.items k (get_or slots k 0) c.requires.ascending c.loop-slot.invariant here (c.shortens.ensures.0 w.if-shortens.true))
      | else-shortens w ↦ rw w.found-is
          (picked_same P slots c.loop-slot.found.items k (get_or slots k 0) c.loop-slot.invariant here (λ s. both_ways _ w.if-shortens.false (c.shortens.ensures.1 s)))
    ]

pub returns : goal.returns
returns c = picked_end _ c.args.slots.now c.loop-slot.found.items c.loop-slot.slot-index (let past = c.loop-slot-test.false in omega arith) c.loop-slot.invariant
