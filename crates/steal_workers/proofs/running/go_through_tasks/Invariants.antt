use Rattle.steal_workers.specs.Workers.{GoesOn}
use Rattle.steal_workers.proofs.running.go_through_tasks.Given as goal

abbrev pub invariant-tasks : goal.invariant-tasks
invariant-tasks g l = GoesOn l.marks l.initial.seat l.seat l.initial.supply l.supply
