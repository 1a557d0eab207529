use Rattle.std.proofs.Common.{get_or, arith}
use Rattle.std.proofs.lemmas.Bool.{both_ways}
use Rattle.flip_claims.specs.Rounds.{HoldsBoth}
use Rattle.flip_claims.proofs.Members.{stands_at}
use Rattle.flip_claims.proofs.Picking.{picked_end, picked_more, picked_same}
use Rattle.flip_claims.proofs.winners.holding.Goals as goal
use Rattle.flip_claims.proofs.winners.holding.Goals.{then-holds_both+in_ok-push, else-holds_both}

pub loop-slot-preserved : goal.loop-slot-preserved
loop-slot-preserved c =
    let P = HoldsBoth c.args.mesh.now c.args.words.now in
    let slots = c.args.slots.now in
    let k = c.loop-slot.slot-index in
    let here = stands_at slots k c.loop-slot-test.true in
    elim c.if-holds_both.branch [
      | then-holds_both+in_ok-push w ↦ rw (w.held-is, w.in_ok-push.ensures.items)
          (picked_more P slots c.loop-slot.held.items k (get_or slots k 0) c.requires.ascending c.loop-slot.invariant here (c.holds_both.ensures.0 w.if-holds_both.true))
      | else-holds_both w ↦ rw w.held-is
          (picked_same P slots c.loop-slot.held.items k (get_or slots k 0) c.loop-slot.invariant here (λ s. both_ways _ w.if-holds_both.false (c.holds_both.ensures.1 s)))
    ]

pub returns : goal.returns
returns c = picked_end _ c.args.slots.now c.loop-slot.held.items c.loop-slot.slot-index (let past = c.loop-slot-test.false in omega arith) c.loop-slot.invariant
