use Rattle.std.specs.List.{AllWithin}
use Rattle.dual_checker.proofs.TightRows.{AreSidesLive}
use Rattle.dual_checker.proofs.ledger.Ledger.has_live.Given as goal

abbrev pub invariant-loop-t : goal.invariant-loop-t
invariant-loop-t l = AllWithin (λ t. ¬ AreSidesLive l.self.net.now l.self.flags.now t) l.row 0 l.t-index
