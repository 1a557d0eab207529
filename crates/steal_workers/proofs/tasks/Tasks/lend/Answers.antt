use Rattle.std.proofs.Common.{ℕ, ◌<◌, sym, subst}
use Rattle.steal_workers.proofs.Deques.{forks}
use Rattle.steal_workers.proofs.tasks.Tasks.lend.Goals as goal

pub another-pass-requires : goal.another-pass-requires
another-pass-requires c = forks _ _ (subst (λ (n : ℕ). 0 < n) (sym c.self.view_is) c.requires)
