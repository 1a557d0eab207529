use Rattle.std.proofs.Common.{◌∙◌}
use Rattle.dual_checker.proofs.LiveLists.{HasNumbers-live}
use Rattle.dual_checker.proofs.judge.broken_part.Goals as goal

pub broken_price_part-requires-clause-numbers : goal.broken_price_part-requires-clause-numbers
broken_price_part-requires-clause-numbers c =
    HasNumbers-live c.args.report.now c.args.elimination.now.net c.args.elimination.now.flags c.deref-2.result.now c.requires.within c.has_candidates.ensures.valid c.requires.eliminated
    (c.has_live.ensures.0 c.if-not-has_live.false) (c.deref-2.ensures.value ∙ c.in_ok-numbers.ensures)
