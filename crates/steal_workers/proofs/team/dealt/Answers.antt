use Rattle.std.proofs.Common.{ℕ, ◌<◌, sym, subst}
use Rattle.steal_workers.proofs.Networks.{has_edges}
use Rattle.steal_workers.proofs.team.dealt.Goals as goal

pub dealt-requires-clause-some_edges : goal.dealt-requires-clause-some_edges
dealt-requires-clause-some_edges c = subst (λ (n : ℕ). 0 < n) (sym c.edges.ensures.value) (has_edges c.args.net.now c.edges.ensures.valid)
