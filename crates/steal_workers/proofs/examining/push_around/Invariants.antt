use Rattle.std.proofs.Common.{◌≡◌}
use Rattle.steal_workers.specs.Workers.{LooksOn}
use Rattle.steal_workers.proofs.examining.push_around.Given as goal

abbrev pub invariant-loop-l : goal.invariant-loop-l
invariant-loop-l l = LooksOn l.marks l.initial.seat l.seat × (l.supply ≡ l.initial.supply)

abbrev pub invariant-loop-r : goal.invariant-loop-r
invariant-loop-r l = LooksOn l.marks l.initial.seat l.seat × (l.supply ≡ l.initial.supply)
