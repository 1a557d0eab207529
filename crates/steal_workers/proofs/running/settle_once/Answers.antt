use Rattle.std.proofs.Common.{arith}
use Rattle.steal_workers.proofs.Ends.{goes_on, goes_by, in_flight}
use Rattle.steal_workers.proofs.running.settle_once.Goals as goal

pub returns-in-Quiet-clause-on : goal.returns-in-Quiet-clause-on
returns-in-Quiet-clause-on c = goes_by _ c.args.seat.now c.settle.new.seat c.args.supply.now c.settle.ensures.seat.0 c.settle.ensures.seat.1 c.settle.ensures.kept

pub returns-in-InFlight-clause-on : goal.returns-in-InFlight-clause-on
returns-in-InFlight-clause-on c = goes_by _ c.args.seat.now c.settle.new.seat c.args.supply.now c.settle.ensures.seat.0 c.settle.ensures.seat.1 c.settle.ensures.kept

pub returns-in-InFlight-clause-ends : goal.returns-in-InFlight-clause-ends
returns-in-InFlight-clause-ends c = let told = c.in-InFlight.ensures.told in
    in_flight c.args.marks.now.net c.in-InFlight.begun c.in-InFlight.finished c.args.seat.now.known c.settle.new.seat.known told.1 told.0 c.settle.ensures.seat.1.1

pub returns-in-Lone-clause-on : goal.returns-in-Lone-clause-on
returns-in-Lone-clause-on c = goes_on _ _ _ _ _ _ _ (goes_by _ c.args.seat.now c.settle.new.seat c.args.supply.now c.settle.ensures.seat.0 c.settle.ensures.seat.1 c.settle.ensures.kept) c.kill.ensures.on

pub returns-in-Lone-clause-later : goal.returns-in-Lone-clause-later
returns-in-Lone-clause-later c = let kept = c.settle.ensures.kept.low in let low = c.kill.ensures.low in let l₀ = low.0 in (omega arith, low.1)

pub returns-in-Moved-clause-on : goal.returns-in-Moved-clause-on
returns-in-Moved-clause-on c = goes_by _ c.args.seat.now c.settle.new.seat c.args.supply.now c.settle.ensures.seat.0 c.settle.ensures.seat.1 c.settle.ensures.kept
