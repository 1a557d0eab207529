use Rattle.std.proofs.Common.{length, ap, ◌∙◌, arith}
use Rattle.edge_marks.specs.Handles.{MarksView}
use Rattle.edge_marks.proofs.At.{opens_at, compares_at}
use Rattle.edge_marks.proofs.Sitters.{meets}
use Rattle.edge_marks.proofs.handles.Marks.open_pass.Goals as goal

pub load-begun-requires : goal.load-begun-requires
load-begun-requires c = let i = c.self.invariant in let i₀ = i.0 in let i₁ = i.1 in let n = ap (λ (v : MarksView). length v.net.edges) c.self.view_is in let b = c.begun.ensures in
    ((meets _ _ _ _ c.seat.view_is c.self.view_is c.requires).0, omega arith, opens_at c.self.inside.table.shared.key _ _ c.seat.inside.place.me _ (omega arith))

pub load-finished-requires : goal.load-finished-requires
load-finished-requires c = let i = c.self.invariant in let i₀ = i.0 in let i₁ = i.1 in let n = ap (λ (v : MarksView). length v.net.edges) c.self.view_is in let b = c.finished.ensures in
    (c.load-begun.ensures.0 ∙ (meets _ _ _ _ c.seat.view_is c.self.view_is c.requires).0, omega arith, compares_at c.self.inside.table.shared.key _ _ c.load-begun.new.seat.me _ (omega arith))
