use Rattle.std.proofs.Common.{ℕ, ◌<◌, sym, subst}
use Rattle.steal_workers.proofs.Deques.{gives}
use Rattle.steal_workers.proofs.tasks.Tasks.push.Goals as goal

pub push_as-requires-clause-pushes : goal.push_as-requires-clause-pushes
push_as-requires-clause-pushes c = gives _ _ c.args.e (subst (λ (n : ℕ). c.args.e < n) (sym c.self.view_is) c.requires)
