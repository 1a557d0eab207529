use Rattle.std.proofs.Common.{sym, ◌∙◌}
use Rattle.std.proofs.lemmas.Bool.{false≢true}
use Rattle.ticket_marks.proofs.support.pairs_with.Goals as goal

pub returns-then-not-has_unranked_sides-clause-no : goal.returns-then-not-has_unranked_sides-clause-no
returns-then-not-has_unranked_sides-clause-no c _ _ = c.has_unranked_sides.ensures.no c.if-not-has_unranked_sides.true

pub returns-clause-yes : goal.returns-clause-yes
returns-clause-yes c h = (c.minimal_pair.ensures.0 h, c.has_unranked_sides.ensures.yes c.if-not-has_unranked_sides.false)

pub returns-clause-no : goal.returns-clause-no
returns-clause-no c h pair = absurd (false≢true (sym h ∙ c.minimal_pair.ensures.1 pair))
