use Rattle.steal_workers.specs.Workers.{LooksOn}
use Rattle.steal_workers.proofs.examining.has_live_sides.Given as goal

abbrev pub invariant-loop-k : goal.invariant-loop-k
invariant-loop-k l = LooksOn l.marks l.initial.seat l.seat
