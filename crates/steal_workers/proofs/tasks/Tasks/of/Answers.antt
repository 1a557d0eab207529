use Rattle.std.proofs.Common.{◌-◌}
use Rattle.steal_workers.proofs.Deques.{opens, pops}
use Rattle.steal_workers.proofs.tasks.Tasks.of.Goals as goal

pub push_as-requires-clause-pushes : goal.push_as-requires-clause-pushes
push_as-requires-clause-pushes c = opens _ _ (c.args.edges - 1) c.in_ok-deque.ensures.4

pub pop_as-requires-clause-lifo : goal.pop_as-requires-clause-lifo
pop_as-requires-clause-lifo c = λ _. pops _ _
