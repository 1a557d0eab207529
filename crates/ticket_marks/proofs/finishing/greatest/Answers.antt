use Rattle.std.proofs.Common.{◌≤◌, ◌<◌, ⊎_elim, arith, below_more}
use Rattle.std.proofs.lemmas.Bool.{cases_lt}
use Rattle.std.proofs.lemmas.List.{get_or_past}
use Rattle.ticket_marks.proofs.finishing.greatest.Goals as goal

pub loop-e-preserved : goal.loop-e-preserved
loop-e-preserved c =
    let is = c.get.ensures in
    let most = c.max-most.ensures in
    record {
      above = below_more _ _ (λ j low. let old = c.loop-e.invariant.above j low in omega arith) (omega arith);
      least = λ m each. let old = c.loop-e.invariant.least m each in let here = each c.loop-e.e in omega arith;
    }

pub returns-clause-above : goal.returns-clause-above
returns-clause-above c j = let end = c.loop-e-test.false in let count = c.len-e-end.ensures in ⊎_elim
    (λ (low : j < c.loop-e.e). c.loop-e.invariant.above j low)
    (λ (high : c.loop-e.e ≤ j). let none = get_or_past c.args.ranks.now j 0 (omega arith) in omega arith)
    (cases_lt j c.loop-e.e)
