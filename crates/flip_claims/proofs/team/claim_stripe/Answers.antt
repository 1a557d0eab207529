use Rattle.std.proofs.Common.{◌+◌, get_or, sym, ap, ◌∙◌, subst, arith}
use Rattle.std.proofs.lemmas.List.Elements.{Contains-get_or}
use Rattle.flip_claims.specs.declared.view.Known.{Known}
use Rattle.flip_claims.proofs.Members.{stands_at}
use Rattle.flip_claims.proofs.Stripes.{IsStripedTo, stripe_end, stripe_more}
use Rattle.flip_claims.proofs.team.claim_stripe.Goals as goal

pub loop-place-preserved : goal.loop-place-preserved
loop-place-preserved g c =
    let h = c.loop-place.invariant in
    let t = c.claim.ensures.steps in
    let slots = c.args.slots.now in
    let place = c.loop-place.place in
    record {
      belongs = c.claim.ensures.seat.1;
      shares = ap (λ (d : Known). d.shares) t.6 ∙ h.shares;
      striped = subst (λ (d : Known). IsStripedTo c.args.mesh.now slots c.args.workers c.args.number d (place + c.args.workers)) (sym t.6)
          (stripe_more c.args.mesh.now slots c.args.workers c.args.number c.loop-place.seat.known place (get_or slots place 0) t.0 t.1 t.2 t.3 h.striped
          (stands_at slots place c.loop-place-test.true) (Contains-get_or slots place 0 c.loop-place-test.true) t.4);
    }

pub returns-clause-claimed : goal.returns-clause-claimed
returns-clause-claimed g c =
    stripe_end c.args.mesh.now c.args.slots.now c.args.workers c.args.number c.loop-place.seat.known c.loop-place.place c.loop-place.invariant.striped
    (λ k s at_k. let l = at_k.inside in let past = c.loop-place-test.false in omega arith)
