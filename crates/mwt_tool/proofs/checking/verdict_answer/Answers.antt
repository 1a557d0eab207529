use Rattle.std.proofs.Common.{subst}
use Rattle.dual_checker.specs.Verdicts.{IsVerdict}
use Rattle.mwt_tool.specs.Checks.{broken, valid}
use Rattle.mwt_tool.proofs.GoodReports.{certified}
use Rattle.mwt_tool.proofs.checking.verdict_answer.Goals as goal

pub returns-in_ok-valid_answer-in-Ok-Valid-clause-decides : goal.returns-in_ok-valid_answer-in-Ok-Valid-clause-decides
returns-in_ok-valid_answer-in-Ok-Valid-clause-decides g c =
    let good = subst (IsVerdict _) c.in-Ok-Valid.field-0-is c.in-Ok-Valid.ensures.verdict in
    valid (c.in-Ok-Valid.ensures.within good.points) (certified good)
    c.in_ok-valid_answer-in-Ok-Valid.ensures.status c.in_ok-valid_answer-in-Ok-Valid.ensures.text

pub returns-in_ok-broken_answer-in-Ok-Broken-clause-decides : goal.returns-in_ok-broken_answer-in-Ok-Broken-clause-decides
returns-in_ok-broken_answer-in-Ok-Broken-clause-decides g c =
    broken _ c.in-Ok-Broken.ensures.within (subst (IsVerdict _) c.in-Ok-Broken.field-0-is c.in-Ok-Broken.ensures.verdict)
    c.in_ok-broken_answer-in-Ok-Broken.ensures.status c.in_ok-broken_answer-in-Ok-Broken.ensures.text
