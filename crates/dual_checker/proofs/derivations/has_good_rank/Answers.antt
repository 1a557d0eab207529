use Rattle.std.proofs.Common.{◌≡◌, slice_index, refl, sym, ◌∙◌, arith}
use Rattle.std.proofs.lemmas.Bool.{false≢true}
use Rattle.dual_checker.proofs.derivations.has_good_rank.Goals as goal

pub returns-then-get-eq0 : goal.returns-then-get-eq0
returns-then-get-eq0 c =
    let none : slice_index c.args.ranks.now c.args.e ≡ 0 = sym c.get.ensures ∙ c.if-get-eq0.true in
    ((λ _. record { hull = λ _. none; derived = λ above. absurd (omega arith) }), λ _. refl)

pub returns-then-is_hull : goal.returns-then-is_hull
returns-then-is_hull c = (
  (λ no. absurd (false≢true no)),
  λ good. absurd (c.if-get-eq0.false (c.get.ensures ∙ good.hull (c.is_hull.ensures.0 c.if-is_hull.true))),
)

pub returns : goal.returns
returns c =
    let is = c.get.ensures in
    let some = c.if-get-eq0.false in (
      (λ yes. record { hull = λ h. absurd (false≢true (sym c.if-is_hull.false ∙ c.is_hull.ensures.1 h)); derived = λ _. c.is_derived.ensures.0 yes }),
      λ good. c.is_derived.ensures.1 (good.derived (omega arith)),
    )
