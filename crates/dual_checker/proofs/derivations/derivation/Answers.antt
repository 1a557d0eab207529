use Rattle.std.proofs.Common.{refl, sym, ◌∙◌, arith, below_more}
use Rattle.std.proofs.lemmas.Bool.{false≢true}
use Rattle.lmt_network.proofs.Derivations.{ranked_none_law}
use Rattle.dual_checker.proofs.Derivings.{derivation_from, derivation_to}
use Rattle.dual_checker.proofs.derivations.derivation.Goals as goal

pub returns-then-not-has_good_rank-clause-value : goal.returns-then-not-has_good_rank-clause-value
returns-then-not-has_good_rank-clause-value c =
    let count = c.edges-e-end.ensures.value in
    let low = c.loop-e-test.true in (
      (λ no. absurd (false≢true no)),
      λ are. absurd (false≢true (sym c.if-not-has_good_rank.true ∙ c.has_good_rank.ensures.1 (derivation_to c.args.net.now c.args.ranks.now c.loop-e.e (omega arith) are))),
    )

pub loop-e-preserved : goal.loop-e-preserved
loop-e-preserved c = below_more _ _ c.loop-e.invariant (c.has_good_rank.ensures.0 c.if-not-has_good_rank.false)

pub returns-clause-value : goal.returns-clause-value
returns-clause-value c =
    let count = c.edges-e-end.ensures.value in
    let end = c.loop-e-test.false in
    ((λ _. derivation_from c.args.net.now c.args.ranks.now (λ e e_in. c.loop-e.invariant e (omega arith))), λ _. refl)

pub returns-clause-in_none : goal.returns-clause-in_none
returns-clause-in_none c _ diamond e fs candidates e_in above closed =
    let count = c.edges-e-end.ensures.value in
    let end = c.loop-e-test.false in
    ranked_none_law c.args.net.now diamond c.args.ranks.now e fs c.edges-e-end.ensures.valid candidates
    (derivation_from c.args.net.now c.args.ranks.now (λ f f_in. c.loop-e.invariant f (omega arith))) e_in above closed
