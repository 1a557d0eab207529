use Rattle.std.proofs.Common.{◌↔◌, IsTrue, subst}
use Rattle.cert_text.specs.declared.report.PriceLine.{PriceLine}
use Rattle.dual_checker.specs.LiveLines.{IsTightLine}
use Rattle.dual_checker.proofs.Ledgers.{line_edge, number_in}
use Rattle.dual_checker.proofs.Loops.{all_more}
use Rattle.dual_checker.proofs.ledger.Ledger.is_tight.Goals as goal

pub is_tight_line-requires-clause-e_in : goal.is_tight_line-requires-clause-e_in
is_tight_line-requires-clause-e_in c = number_in c.args.self.now.report.now c.args.self.now.net.now c.args.self.now.flags.now c.args.self.now.numbers.now c.loop-k.k c.requires.ledger.numbers_are (rw c.as_slice-line-items.ensures.is at c.loop-k-test.true)

pub is_tight_line-requires-clause-line : goal.is_tight_line-requires-clause-line
is_tight_line-requires-clause-line c =
    line_edge c.args.self.now.report.now c.args.self.now.net.now c.args.self.now.flags.now c.args.self.now.numbers.now c.loop-k.k c.line-item.result c.requires.ledger.numbers_are (rw c.as_slice-line-items.ensures.is at c.loop-k-test.true) (rw c.as_slice-line-items.ensures.is at c.line-item.is)

pub loop-k-preserved : goal.loop-k-preserved
loop-k-preserved c =
    all_more c.line-item.result (IsTightLine c.args.self.now.report.now) c.as_slice-line-items.result.now c.args.self.now.report.now.live c.loop-k.k c.is_tight_line.result c.as_slice-line-items.ensures.is c.loop-k-test.true
    (subst (λ (l : PriceLine). IsTrue c.is_tight_line.result ↔ IsTightLine c.args.self.now.report.now l) c.line-item.is c.is_tight_line.ensures) c.if-not-is_tight_line.false c.loop-k.invariant
