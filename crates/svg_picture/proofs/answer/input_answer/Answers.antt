use Rattle.std.proofs.Common.{◌∙◌, refl, subst}
use Rattle.cert_text.specs.Reading.{Fails}
use Rattle.cert_text.specs.declared.refusal.ReportStop.{ReportStop}
use Rattle.cert_text.specs.Whole.{report_of}
use Rattle.svg_picture.specs.Draws.{drawn, refused}
use Rattle.svg_picture.proofs.Rules.{refused_rule}
use Rattle.svg_picture.proofs.answer.input_answer.Goals as goal

pub report_refusal-requires : goal.report_refusal-requires
report_refusal-requires c =
    refused_rule c.args.input.now c.in-Err-Refused.why
    (subst (λ (stop : ReportStop). Fails stop (report_of c.args.input.now)) c.in-Err-Refused.field-0-is c.in-Err-Refused.ensures.exact)

pub returns-in_ok-text-in-Ok-clause-draws : goal.returns-in_ok-text-in-Ok-clause-draws
returns-in_ok-text-in-Ok-clause-draws c =
    drawn c.in-Ok.report c.in-Ok.ensures.read.0 c.in-Ok.ensures.read.1 refl c.in_ok-text-in-Ok.ensures

pub returns-in_ok-refused-in-Err-Refused-clause-draws : goal.returns-in_ok-refused-in-Err-Refused-clause-draws
returns-in_ok-refused-in-Err-Refused-clause-draws c =
    refused c.in-Err-Refused.why
    (subst (λ (stop : ReportStop). Fails stop (report_of c.args.input.now)) c.in-Err-Refused.field-0-is c.in-Err-Refused.ensures.exact) (
      c.in_ok-refused-in-Err-Refused.ensures.status,
      c.in_ok-refused-in-Err-Refused.ensures.text ∙ c.as_str.ensures.value ∙ c.in_ok-line-in-Err-Refused.ensures,
    )
