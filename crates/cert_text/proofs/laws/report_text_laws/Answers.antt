use Rattle.cert_text.proofs.ReportSizes.{text_short}
use Rattle.cert_text.proofs.Reports.{one_text}
use Rattle.cert_text.proofs.laws.report_text_laws.Goals as goal

pub returns : goal.returns
returns c = record { one_text = one_text; short = text_short }
