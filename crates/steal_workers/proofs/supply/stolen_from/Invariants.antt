use Rattle.std.proofs.Common.{◌≡◌}
use Rattle.steal_workers.proofs.supply.stolen_from.Given as goal

abbrev pub invariant-loop-k : goal.invariant-loop-k
invariant-loop-k l = l.thieves ≡ l.initial.thieves
