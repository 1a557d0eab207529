use Rattle.std.proofs.Common.{sym, arith}
use Rattle.std.proofs.lemmas.Bool.{eqb-true}
use Rattle.flip_finish.proofs.Minimal.{IsFlipMinimal-still}
use Rattle.flip_finish.proofs.Shortening.{IsShortened-trans}
use Rattle.flip_claims.proofs.Repeating.{rounds_next, still}
use Rattle.flip_claims.proofs.rounds.shorten_claimed.Goals as goal

pub returns-in_err-slots-2-clause-shortened : goal.returns-in_err-slots-2-clause-shortened
returns-in_err-slots-2-clause-shortened g c = IsShortened-trans c.args.points.now.points c.args.mesh.now c.rounds.mesh c.next_round.new.mesh c.rounds.invariant.rounds.shortened c.next_round.ensures.shortened

pub rounds-preserved : goal.rounds-preserved
rounds-preserved g c =
    let h = c.rounds.invariant in
    let r = c.in_ok-slots-2.ensures.round in
    let shortened = c.next_round.ensures.shortened in
    let many = shortened.slots in
    let few = h.few in
    record {
      rounds = rounds_next c.args.points.now.points c.args.mesh.now c.rounds.mesh c.next_round.new.mesh r.0 h.rounds r.1 shortened;
      shortening = c.in_ok-slots-2.ensures.shortening;
      within = shortened.within h.within;
      whole = c.next_round.ensures.whole;
      few = omega arith;
    }

pub returns-clause-none : goal.returns-clause-none
returns-clause-none g c =
    let none = eqb-true _ _ (sym c.rounds-test.ensures) in
    let capacity = c.rounds.slots.ok.0 in
    still c.args.points.now.points c.rounds.mesh c.rounds.slots.items c.rounds.invariant.shortening (omega arith)

pub returns-clause-minimal : goal.returns-clause-minimal
returns-clause-minimal g c hull of_hull =
    let none = eqb-true _ _ (sym c.rounds-test.ensures) in
    let capacity = c.rounds.slots.ok.0 in
    IsFlipMinimal-still c.args.points.now.points hull c.rounds.mesh c.rounds.invariant.whole of_hull
    (λ p l. still c.args.points.now.points c.rounds.mesh c.rounds.slots.items c.rounds.invariant.shortening (omega arith) p)
