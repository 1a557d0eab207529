use Rattle.steal_workers.proofs.Ends.{goes_on, goes_by}
use Rattle.steal_workers.proofs.examining.attend.Goals as goal

pub returns-in-Supported : goal.returns-in-Supported
returns-in-Supported g c = goes_on _ _ _ _ _ _ _
    (goes_by _ c.args.seat.now c.look.new.seat c.args.supply.now c.look.ensures.seat.0 c.look.ensures.seat.1 c.look.ensures.kept)
    (goes_by _ c.look.new.seat c.examine.new.seat c.args.supply.now c.examine.ensures.seat.0 c.examine.ensures.seat.1 c.examine.ensures.kept)

pub returns-in-Unsupported : goal.returns-in-Unsupported
returns-in-Unsupported g c = goes_on _ _ _ _ _ _ _
    (goes_by _ c.args.seat.now c.look.new.seat c.args.supply.now c.look.ensures.seat.0 c.look.ensures.seat.1 c.look.ensures.kept)
    (goes_on _ _ _ _ _ _ _ (goes_by _ c.look.new.seat c.examine.new.seat c.args.supply.now c.examine.ensures.seat.0 c.examine.ensures.seat.1 c.examine.ensures.kept) c.kill.ensures.on)
