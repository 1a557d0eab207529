use Rattle.std.specs.List.{AllWithin}
use Rattle.dual_checker.specs.LiveLines.{IsTightLine}
use Rattle.dual_checker.proofs.ledger.Ledger.is_tight.Given as goal

abbrev pub invariant-loop-k : goal.invariant-loop-k
invariant-loop-k l = AllWithin (IsTightLine l.self.report.now) l.self.report.now.live 0 l.k
