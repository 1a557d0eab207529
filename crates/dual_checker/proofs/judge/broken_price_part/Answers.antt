use Rattle.std.proofs.Common.{subst, sym}
use Rattle.cert_text.specs.declared.report.Report.{Report}
use Rattle.dual_checker.specs.GoodReport.{HasLength, price_parts}
use Rattle.dual_checker.specs.Parts.{IsFirstToFail}
use Rattle.dual_checker.proofs.judge.broken_price_part.Goals as goal

pub broken_part_of-requires-clause-length : goal.broken_part_of-requires-clause-length
broken_part_of-requires-clause-length c = subst (λ (r : Report). HasLength r) (sym c.in_ok-ledger.ensures.same.0) c.requires.length

pub returns : goal.returns
returns c = subst (λ (r : Report). IsFirstToFail 8 (price_parts r) c.in_ok-broken.broken) c.in_ok-ledger.ensures.same.0 c.in_ok-broken.ensures
