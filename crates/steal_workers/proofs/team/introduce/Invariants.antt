use Rattle.std.proofs.Common.{◌≡◌}
use Rattle.steal_workers.proofs.team.introduce.Given as goal

abbrev pub invariant-loop-k : goal.invariant-loop-k
invariant-loop-k l = l.team ≡ l.initial.team

abbrev pub invariant-loop-step : goal.invariant-loop-step
invariant-loop-step l = l.team ≡ l.initial.team
