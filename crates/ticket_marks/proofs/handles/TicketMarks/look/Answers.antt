use Rattle.std.proofs.Common.{◌<◌, length, Contains, sym, ap, ◌∙◌, subst, arith}
use Rattle.lmt_network.specs.Network.{NetworkParts}
use Rattle.lmt_network.specs.Numbers.{IsDead}
use Rattle.ticket_marks.specs.Answers.{rank_of}
use Rattle.ticket_marks.specs.Handles.{SeatView, TicketsView, IsSeated}
use Rattle.ticket_marks.specs.Plays.{Sitting, looked_view}
use Rattle.ticket_marks.specs.Rule.{ranked}
use Rattle.ticket_marks.specs.Told.{Remembers}
use Rattle.ticket_marks.proofs.Answering.{rank_killed}
use Rattle.ticket_marks.proofs.Looks.{looks}
use Rattle.ticket_marks.proofs.Remembering.{remembers_look}
use Rattle.ticket_marks.proofs.Sitters.{meets, stays}
use Rattle.ticket_marks.proofs.handles.TicketMarks.look.Goals as goal

pub load-mark-requires : goal.load-mark-requires
load-mark-requires c = let i = c.self.invariant in let i₀ = i.0 in let i₁ = i.1 in let n = ap (λ (v : TicketsView). length v.net.edges) c.self.view_is in let inside = c.requires.inside in
    let low : c.args.e < length c.self.inside.table.shared.key.net.value.edges = omega arith in
    ((meets _ _ _ _ c.seat.view_is c.self.view_is c.requires.belongs).0, omega arith, looks c.self.inside.table.shared.key _ _ c.seat.inside.place.me c.args.e low)

pub invariant_of-seat : goal.invariant_of-seat
invariant_of-seat c = subst (λ (m : Sitting). IsSeated m.0 m.1 c.seat.inside.slot c.seat.inside.bits.items c.seat.inside.spare.items) (sym c.load-mark.ensures.2.0) record { idle = c.seat.invariant.idle; keeps = c.seat.invariant.keeps }

pub returns-clause-seat : goal.returns-clause-seat
returns-clause-seat c = stays _ _ c.args.self.now _ _ _ c.seat.view_is c.requires.belongs c.load-mark.ensures.0 c.load-mark.ensures.1 (ap (λ (m : Sitting). m.0.net) c.load-mark.ensures.2.0)

pub returns-clause-step : goal.returns-clause-step
returns-clause-step c = (c.load-mark.result, c.of.ensures, ap (λ (m : Sitting). m.0) c.load-mark.ensures.2.0 ∙ ap (λ (v : SeatView). looked_view c.args.e c.load-mark.result v.known) c.seat.view_is)

pub returns-clause-kept : goal.returns-clause-kept
returns-clause-kept c = subst (Remembers c.args.seat.now.known) (sym (ap (λ (m : Sitting). m.0) c.load-mark.ensures.2.0 ∙ ap (λ (v : SeatView). looked_view c.args.e c.load-mark.result v.known) c.seat.view_is))
    (remembers_look c.args.e c.load-mark.result c.args.seat.now.known)

pub returns-clause-dead : goal.returns-clause-dead
returns-clause-dead c m killed = subst (λ (n : NetworkParts). IsDead n c.args.e) (ap (λ (v : SeatView). v.known.net) c.seat.view_is ∙ c.requires.belongs.1) (c.load-mark.ensures.2.1.dead (rank_killed _ m (sym c.of.ensures ∙ killed)))

pub returns-clause-seen : goal.returns-clause-seen
returns-clause-seen c m has = c.of.ensures ∙ ap rank_of (c.load-mark.ensures.2.1.seen m (subst (λ (v : SeatView). Contains v.known.seen (ranked c.args.e m)) (sym c.seat.view_is) has))
