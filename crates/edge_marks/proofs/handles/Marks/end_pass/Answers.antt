use Rattle.std.proofs.Common.{length, sym, ap, ◌∙◌, subst, arith}
use Rattle.lmt_network.specs.Network.{NetworkParts}
use Rattle.edge_marks.specs.Rule.{AreJudged}
use Rattle.edge_marks.specs.Handles.{SeatView, MarksView}
use Rattle.edge_marks.proofs.At.{settles_at}
use Rattle.edge_marks.proofs.Sitters.{meets}
use Rattle.edge_marks.proofs.handles.Marks.end_pass.Goals as goal

pub load-requires : goal.load-requires
load-requires c = let i = c.self.invariant in let i₀ = i.0 in let i₁ = i.1 in let n = ap (λ (v : MarksView). length v.net.edges) c.self.view_is in let b = c.begun.ensures in let j = c.requires.judged in (
  (meets _ _ _ _ c.seat.view_is c.self.view_is c.requires.belongs).0,
  omega arith,
  settles_at c.self.inside.table.shared.key _ _ c.seat.inside.place.me _ j.0 j.1 (omega arith) (ap (λ (v : SeatView). v.known.pass) c.seat.view_is ∙ j.2)
      (subst (λ (n : NetworkParts). AreJudged n j.1) (sym (ap (λ (v : MarksView). v.net) c.self.view_is)) j.3),
)
