use Rattle.dual_checker.proofs.TightRows.{IsSeen}
use Rattle.dual_checker.proofs.ledger.Ledger.is_tight_side.Given as goal

abbrev pub invariant-loop-t : goal.invariant-loop-t
invariant-loop-t l = IsSeen l.self.report.now l.self.net.now l.self.flags.now l.row l.t-index l.bare
