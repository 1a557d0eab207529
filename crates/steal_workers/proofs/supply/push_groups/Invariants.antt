use Rattle.std.proofs.Common.{◌≡◌}
use Rattle.steal_workers.proofs.supply.push_groups.Given as goal

abbrev pub invariant-loop-k : goal.invariant-loop-k
invariant-loop-k l = l.tasks ≡ l.initial.tasks
