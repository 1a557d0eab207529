use Rattle.std.proofs.Common.{get_or, inl, inr, ⊎_elim}
use Rattle.flip_claims.proofs.Flipping.{flips_more, flips_start, next_shortens}
use Rattle.flip_claims.proofs.Members.{stands_at}
use Rattle.flip_claims.proofs.Untouched.{untouched_shortens}
use Rattle.flip_claims.proofs.winners.flip_all.Goals as goal

pub flip-requires : goal.flip-requires
flip-requires c = record {
  shortens = next_shortens c.args.points.now.points c.args.mesh.now c.args.winners.now c.requires c.loop-slot.mesh c.loop-slot.slot-index (get_or c.args.winners.now c.loop-slot.slot-index 0) c.loop-slot.invariant
      (stands_at c.args.winners.now c.loop-slot.slot-index c.loop-slot-test.true);
}

pub loop-slot-preserved : goal.loop-slot-preserved
loop-slot-preserved c =
    flips_more c.args.points.now.points c.args.mesh.now c.args.winners.now c.requires c.loop-slot.mesh c.flip.new.self c.loop-slot.slot-index (get_or c.args.winners.now c.loop-slot.slot-index 0) c.loop-slot.invariant
    (stands_at c.args.winners.now c.loop-slot.slot-index c.loop-slot-test.true) c.flip.ensures.flipped c.flip.ensures.shortened c.flip.ensures.whole c.flip.ensures.falls

pub loop-slot-init : goal.loop-slot-init
loop-slot-init c = flips_start c.args.points.now.points c.args.mesh.now c.args.winners.now

pub returns-clause-back : goal.returns-clause-back
returns-clause-back c p s = ⊎_elim (λ near. inl near) (λ stays. inr (untouched_shortens c.args.points.now.points c.loop-slot.mesh c.args.mesh.now p stays s)) (c.loop-slot.invariant.back p s)
