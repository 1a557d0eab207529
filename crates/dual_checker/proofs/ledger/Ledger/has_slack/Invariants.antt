use Rattle.std.proofs.Common.{ℕ, ◌<◌, pos, ◌≤ℤ◌}
use Rattle.lmt_network.specs.Network.{tri_at}
use Rattle.lmt_network.specs.Prices.{IsLiveTriangle, slack}
use Rattle.dual_checker.specs.GoodReport.{prices_of}
use Rattle.dual_checker.proofs.ledger.Ledger.has_slack.Given as goal

abbrev pub invariant-loop-t : goal.invariant-loop-t
invariant-loop-t l =
    (i : ℕ) → i < l.t → IsLiveTriangle l.self.report.now.points (prices_of l.self.report.now) (tri_at l.self.net.now i)
    → pos 0 ≤ℤ slack l.self.report.now.points l.self.report.now.hull (prices_of l.self.report.now) (tri_at l.self.net.now i)
