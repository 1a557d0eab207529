use Rattle.std.proofs.Common.{◌≡◌}
use Rattle.steal_workers.proofs.team.fill_deques.Given as goal

abbrev pub invariant-loop-k : goal.invariant-loop-k
invariant-loop-k l = l.team ≡ l.initial.team
