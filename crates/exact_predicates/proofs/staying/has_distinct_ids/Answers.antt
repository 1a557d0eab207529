-- One id more is new exactly where no point before has it.
use Rattle.std.proofs.Common.{sym, ◌∙◌}
use Rattle.exact_predicates.proofs.DistinctIds.{AreIds-more, has_distinct_ids-repeated}
use Rattle.exact_predicates.proofs.staying.has_distinct_ids.Goals as goal

pub returns-then-not-branch : goal.returns-then-not-branch
returns-then-not-branch c =
    has_distinct_ids-repeated c.args.points.now c.loop-p.p-index c.loop-p.ids c.loop-p-test.true c.loop-p.invariant (sym c.if-not-branch.true ∙ c.in_ok-insert.ensures.added)

pub loop-p-preserved : goal.loop-p-preserved
loop-p-preserved c =
    AreIds-more c.args.points.now c.loop-p.p-index c.loop-p.ids c.insert.new.self c.loop-p-test.true c.loop-p.invariant (sym c.if-not-branch.false ∙ c.in_ok-insert.ensures.added) c.in_ok-insert.ensures.updates.0
