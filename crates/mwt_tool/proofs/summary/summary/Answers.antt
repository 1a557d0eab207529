use Rattle.cert_text.specs.Texts.{length_lines}
use Rattle.cert_text.proofs.Growing.{grows_then}
use Rattle.mwt_tool.specs.Summary.{count_lines, summary_lines}
use Rattle.mwt_tool.proofs.summary.summary.Goals as goal

pub returns : goal.returns
unfolding summary_lines
returns c =
    let r = c.args.report.now in
    let all = grows_then _ _ _ (count_lines r) (length_lines r) c.in_ok-write_counts.ensures c.in_ok-write_lengths.ensures in
    rw c.new-text.ensures.items at all
