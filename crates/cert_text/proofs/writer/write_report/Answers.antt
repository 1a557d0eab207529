use Rattle.std.proofs.Common.{ℕ, List, ◌≤◌, length, arith, subst, sym, ◌∙◌}
use Rattle.mwt_base.specs.Limits.{most_bytes}
use Rattle.cert_text.proofs.Growing.{report_grown}
use Rattle.cert_text.proofs.ReportSizes.{report_short}
use Rattle.cert_text.proofs.writer.write_report.Goals as goal

pub of-requires : goal.of-requires
of-requires c =
    let text = c.into_bytes-bytes.ensures ∙ report_grown _ _ _ _ _ c.args.report.now c.new-text.ensures c.in_ok-write_head.ensures c.in_ok-write_points.ensures
    c.in_ok-write_edges.ensures c.in_ok-write_tail.ensures in
    let few = report_short c.args.report.now c.requires in
    let short = subst (λ (t : List ℕ). length t ≤ most_bytes) (sym text) few in
    let len = c.into_bytes-bytes.result.ok in
    omega (arith, len, short)

pub returns : goal.returns
returns c =
    c.of.ensures ∙ c.into_bytes-bytes.ensures ∙ report_grown _ _ _ _ _ c.args.report.now c.new-text.ensures c.in_ok-write_head.ensures c.in_ok-write_points.ensures
    c.in_ok-write_edges.ensures c.in_ok-write_tail.ensures
