use Rattle.std.proofs.Common.{◌-◌}
use Rattle.edge_marks.specs.Words.{most_kills}
use Rattle.steal_workers.specs.Workers.{GoesOn}
use Rattle.steal_workers.proofs.running.work.Given as goal

abbrev pub invariant-rounds : goal.invariant-rounds
invariant-rounds g l = GoesOn l.marks l.initial.seat l.seat l.initial.supply l.supply

abbrev pub decreases-rounds : goal.decreases-rounds
decreases-rounds g l = most_kills l.marks.net - l.seat.known.low
