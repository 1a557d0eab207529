use Rattle.std.proofs.Common.{◌≡◌, List, length, All, sym, subst}
use Rattle.steal_workers.specs.Workers.{WorkerView}
use Rattle.steal_workers.proofs.Teams.{team_edges}
use Rattle.steal_workers.proofs.worker.WorkerState.team.Goals as goal

pub introduce-requires : goal.introduce-requires
introduce-requires c = let m = c.args.marks.now in (
  length m.net.edges,
  subst (λ (l : List WorkerView). All (λ w. length w.seat.known.net.edges ≡ length m.net.edges) l) (sym c.as_mut_slice.ensures.value) (team_edges m _ c.in_ok-team.ensures.team.1),
)
