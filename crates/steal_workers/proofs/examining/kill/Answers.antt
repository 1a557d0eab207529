use Rattle.std.proofs.Common.{arith}
use Rattle.steal_workers.proofs.Ends.{goes_on, goes_by, goes_looking}
use Rattle.steal_workers.proofs.examining.kill.Goals as goal

pub returns-in-First-clause-on : goal.returns-in-First-clause-on
returns-in-First-clause-on c = goes_on _ _ _ _ _ _ _
    (goes_by _ c.args.seat.now c.kill.new.seat c.args.supply.now c.kill.ensures.seat.0 c.kill.ensures.seat.1 c.kill.ensures.kept)
    (goes_looking _ _ _ _ _ c.push_around.ensures.looks c.push_around.ensures.supply)

pub returns-in-First-clause-low : goal.returns-in-First-clause-low
returns-in-First-clause-low c = let same = c.push_around.ensures.looks.low in let low = c.kill.ensures.low in let l₀ = low.0 in let l₁ = low.1 in (omega arith, omega arith)
