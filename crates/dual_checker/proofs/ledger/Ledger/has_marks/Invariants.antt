use Rattle.std.specs.List.{AllWithin}
use Rattle.dual_checker.specs.GoodReport.{IsMarked}
use Rattle.dual_checker.proofs.ledger.Ledger.has_marks.Given as goal

abbrev pub invariant-loop-k : goal.invariant-loop-k
invariant-loop-k l = AllWithin (IsMarked l.self.report.now) l.self.report.now.live 0 l.k
