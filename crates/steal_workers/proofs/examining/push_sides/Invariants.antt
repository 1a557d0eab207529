use Rattle.std.proofs.Common.{◌≡◌}
use Rattle.steal_workers.proofs.examining.push_sides.Given as goal

abbrev pub invariant-loop-k : goal.invariant-loop-k
invariant-loop-k l = l.supply ≡ l.initial.supply
