use Rattle.std.proofs.Common.{subst}
use Rattle.cert_text.specs.Reading.{Fails}
use Rattle.cert_text.specs.declared.refusal.ReportStop.{ReportStop}
use Rattle.cert_text.specs.Whole.{report_of}
use Rattle.mwt_tool.specs.Checks.{read, refused}
use Rattle.mwt_tool.proofs.checking.check_answer.Goals as goal

pub returns-in_ok-verdict_answer-in-Ok-clause-checks : goal.returns-in_ok-verdict_answer-in-Ok-clause-checks
returns-in_ok-verdict_answer-in-Ok-clause-checks g c =
    read _ c.in-Ok.ensures.exact c.in-Ok.ensures.read.1 c.in_ok-verdict_answer-in-Ok.ensures.decides

pub returns-in_ok-refusal_answer-in-Err-Refused-clause-checks : goal.returns-in_ok-refusal_answer-in-Err-Refused-clause-checks
returns-in_ok-refusal_answer-in-Err-Refused-clause-checks g c =
    refused _ (subst (λ (stop : ReportStop). Fails stop (report_of c.args.input.now)) c.in-Err-Refused.field-0-is c.in-Err-Refused.ensures.exact)
    (c.in_ok-refusal_answer-in-Err-Refused.ensures.status, c.in_ok-refusal_answer-in-Err-Refused.ensures.text)
