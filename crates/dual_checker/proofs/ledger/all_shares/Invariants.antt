use Rattle.dual_checker.proofs.Ledgers.{SharesUpto}
use Rattle.dual_checker.proofs.ledger.all_shares.Given as goal

abbrev pub invariant-loop-k : goal.invariant-loop-k
invariant-loop-k l = SharesUpto l.report l.net l.numbers l.shares.items l.k
