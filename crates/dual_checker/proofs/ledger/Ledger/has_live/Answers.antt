use Rattle.dual_checker.proofs.Loops.{one_fewer}
use Rattle.dual_checker.proofs.TightRows.{AreSidesLive}
use Rattle.dual_checker.proofs.ledger.Ledger.has_live.Goals as goal

pub loop-t-preserved : goal.loop-t-preserved
loop-t-preserved c =
    one_fewer 0 (AreSidesLive c.args.self.now.net.now c.args.self.now.flags.now) c.args.row.now c.loop-t.t-index c.is_live.result c.loop-t-test.true c.is_live.ensures
    c.if-is_live.false c.loop-t.invariant
