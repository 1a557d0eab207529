use Rattle.std.proofs.Common.{◌≡◌, ℕ, List, ap, subst, ◌∙◌}
use Rattle.std.specs.Prelude.{IfOk}
use Rattle.cert_text.specs.Texts.{report_text}
use Rattle.cert_text.specs.Within.{IsWithin}
use Rattle.cert_text.specs.Reading.{Gives}
use Rattle.cert_text.specs.Whole.{report_of}
use Rattle.cert_text.proofs.Reports.{is_read, whole_found}
use Rattle.cert_text.proofs.whole.read_report.Goals as goal

pub returns-clause-read : goal.returns-clause-read
returns-clause-read c = subst (λ (bytes : List ℕ). IfOk c.report.result (λ r. IsWithin r × (bytes ≡ report_text r))) c.as_slice.ensures.is
    (is_read c.as_slice.result.now c.report.result c.report.ensures)

pub returns-clause-only : goal.returns-clause-only
returns-clause-only c = λ r is e. subst (λ f. Gives (λ r. r) c.report.result f) (ap report_of (c.as_slice.ensures.is ∙ e) ∙ whole_found r is) c.report.ensures
