use Rattle.std.proofs.Common.{length, sym, ap, ◌∙◌}
use Rattle.lmt_network.specs.Network.{NetworkParts}
use Rattle.steal_workers.specs.Workers.{WorkerView, SupplyView}
use Rattle.steal_workers.proofs.Ends.{end_of_run}
use Rattle.steal_workers.proofs.worker.WorkerState.run.Goals as goal

pub invariant_of-self : goal.invariant_of-self
invariant_of-self g c = let net = ap (λ (v : WorkerView). v.seat.known.net) c.self.view_is in let on = c.work-end.ensures.on in (
  ap (λ (s : SupplyView). s.edges) c.end.ensures
      ∙ (on.edges ∙ (ap (λ (s : SupplyView). s.edges) c.begin.ensures ∙ (c.self.invariant.0 ∙ ap (λ (n : NetworkParts). length n.edges) (net ∙ (c.requires.0.1 ∙ sym on.belongs.1))))),
  end_of_run c.self.inside.seat.known c.work-end.new.seat.known c.work-end.result c.work-end.ensures.ends,
)
