use Rattle.std.proofs.Common.{sym, ◌∙◌}
use Rattle.std.proofs.lemmas.Bool.{false≢true}
use Rattle.dual_checker.proofs.derivations.is_open.Goals as goal

pub returns-then-has_lower_side-clause-no : goal.returns-then-has_lower_side-clause-no
returns-then-has_lower_side-clause-no c _ _ = c.has_lower_side.ensures.0 c.if-has_lower_side.true

pub returns-clause-yes : goal.returns-clause-yes
returns-clause-yes c h = (c.minimal_pair.ensures.0 h, λ s. false≢true (sym c.if-has_lower_side.false ∙ c.has_lower_side.ensures.1 s))

pub returns-clause-no : goal.returns-clause-no
returns-clause-no c h pair = absurd (false≢true (sym h ∙ c.minimal_pair.ensures.1 pair))
