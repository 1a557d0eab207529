use Rattle.std.proofs.Common.{refl, sym, ◌∙◌, subst, arith, below_more}
use Rattle.std.proofs.lemmas.Bool.{false≢true}
use Rattle.std.proofs.lemmas.List.Elements.{Contains-get_or}
use Rattle.dual_checker.specs.Derived.{IsDerivedAt}
use Rattle.dual_checker.proofs.Derivings.{at_member, derived_from, derived_to}
use Rattle.dual_checker.proofs.derivations.is_derived.Goals as goal

pub is_derived_at-requires-clause-on_left : goal.is_derived_at-requires-clause-on_left
is_derived_at-requires-clause-on_left c = (c.left-l-items.ensures.members _).0 (Contains-get_or c.left-l-items.result.now c.loop-l.l-index 0 c.loop-l-test.true)

pub returns-then-not-is_derived_at : goal.returns-then-not-is_derived_at
returns-then-not-is_derived_at c = (
  (λ no. absurd (false≢true no)),
  λ derived. absurd (false≢true (sym c.if-not-is_derived_at.true ∙ c.is_derived_at.ensures.1 (derived_to c.args.net.now c.args.ranks.now c.args.e _ derived))),
)

pub loop-l-preserved : goal.loop-l-preserved
loop-l-preserved c = below_more _ _ c.loop-l.invariant (c.is_derived_at.ensures.0 c.if-not-is_derived_at.false)

pub returns : goal.returns
returns c = (
  (λ _. derived_from c.args.net.now c.args.ranks.now c.args.e (λ l r pair.
      let m = at_member c.left-l-items.result.now l ((c.left-l-items.ensures.members l).1 (pair.l_in, (pair.a, pair.left_is))) in
      let within = m.1 in
      let end = c.loop-l-test.false in
      subst (IsDerivedAt c.args.net.now c.args.ranks.now c.args.e) m.2 (c.loop-l.invariant m.0 (omega arith)))),
  λ _. refl,
)
