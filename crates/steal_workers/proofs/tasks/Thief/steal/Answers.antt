use Rattle.steal_workers.proofs.Deques.{takes}
use Rattle.steal_workers.proofs.tasks.Thief.steal.Goals as goal

pub steal_as-requires-clause-takes : goal.steal_as-requires-clause-takes
steal_as-requires-clause-takes c = takes _ _
