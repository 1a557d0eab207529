use Rattle.std.proofs.Common.{◌≡◌, ◌*◌, ◌<◌, [], ◌∷◌, length, Contains, sym, ap, ◌∙◌, subst, arith}
use Rattle.lmt_network.specs.Network.{NetworkParts}
use Rattle.lmt_network.specs.Numbers.{AreLive, IsDead}
use Rattle.mark_seats.specs.Keeping.{note_of}
use Rattle.edge_marks.specs.Handles.{SeatView, MarksView, IsSeated}
use Rattle.edge_marks.specs.Plays.{Sitting, looked_view, LookTells}
use Rattle.edge_marks.specs.Told.{Remembers}
use Rattle.edge_marks.proofs.Remembering.{remembers_look}
use Rattle.edge_marks.proofs.Answering.{look_killed, killed_look, look_live}
use Rattle.edge_marks.proofs.Looks.{looks}
use Rattle.mark_seats.proofs.Keeping.{note_alone, note_written, kept_written}
use Rattle.edge_marks.proofs.Sitters.{meets, stays, look_told}
use Rattle.edge_marks.proofs.handles.Marks.look.Goals as goal

pub exchange-requires : goal.exchange-requires
exchange-requires c = let p = c.seat.inside in let h = c.seat.invariant in (
  (meets _ _ _ _ c.seat.view_is c.self.view_is c.requires.belongs).0,
  (note_of p.place.me.1, h.keeps.note ∙ sym (note_alone h.keeps (note_of p.place.me.1))),
)

pub load-word-requires : goal.load-word-requires
load-word-requires c = let h = c.seat.invariant in let i = c.self.invariant in let i₀ = i.0 in let i₁ = i.1 in let n = ap (λ (v : MarksView). length v.net.edges) c.self.view_is in let inside = c.requires.inside in
    let low : c.args.e < length c.self.inside.table.shared.key.net.value.edges = omega arith in (
      c.exchange.ensures.0 ∙ (meets _ _ _ _ c.seat.view_is c.self.view_is c.requires.belongs).0,
      omega arith,
      looks c.self.inside.table.shared.key _ _ c.exchange.new.seat.me (c.seat.inside.slot * 32) c.args.e (ap (λ (m : Sitting). m.1) c.exchange.ensures.3 ∙ note_alone h.keeps c.args.e) low,
    )

-- the seat after the load, and what the load told it
told : (c : goal.After-of) → (c.load-word.new.seat.me ≡ (looked_view c.args.e c.load-word.result c.seat.inside.place.me.0, (c.seat.inside.slot * 32, c.args.e) ∷ [])) × LookTells c.seat.inside.place.me.0 c.args.e c.load-word.result
told c = look_told c.seat.inside.place.me.0 (c.seat.inside.slot * 32) c.args.e c.load-word.result c.exchange.new.seat.me c.load-word.new.seat.me (note_written c.seat.invariant.keeps c.seat.inside.place.me.0 c.args.e c.exchange.new.seat.me c.exchange.ensures.3) c.load-word.ensures.2

pub invariant_of-seat : goal.invariant_of-seat
invariant_of-seat c = subst (λ (m : Sitting). IsSeated m.0 m.1 c.seat.inside.slot c.seat.inside.bits.items c.seat.inside.spare.items) (sym (told c).0) record { idle = c.seat.invariant.idle; keeps = kept_written c.seat.invariant.keeps c.args.e }

pub returns-clause-seat : goal.returns-clause-seat
returns-clause-seat c = stays _ _ c.args.self.now _ _ _ c.seat.view_is c.requires.belongs (c.load-word.ensures.0 ∙ c.exchange.ensures.0) (c.load-word.ensures.1 ∙ c.exchange.ensures.1) (ap (λ (m : Sitting). m.0.net) (told c).0)

pub returns-clause-step : goal.returns-clause-step
returns-clause-step c = (c.load-word.result, c.of.ensures, ap (λ (m : Sitting). m.0) (told c).0 ∙ ap (λ (v : SeatView). looked_view c.args.e c.load-word.result v.known) c.seat.view_is)

pub returns-clause-kept : goal.returns-clause-kept
returns-clause-kept c = subst (Remembers c.args.seat.now.known) (sym (ap (λ (m : Sitting). m.0) (told c).0 ∙ ap (λ (v : SeatView). looked_view c.args.e c.load-word.result v.known) c.seat.view_is))
    (remembers_look c.args.e c.load-word.result c.args.seat.now.known)

pub returns-clause-dead : goal.returns-clause-dead
returns-clause-dead c killed = subst (λ (n : NetworkParts). IsDead n c.args.e) (ap (λ (v : SeatView). v.known.net) c.seat.view_is ∙ c.requires.belongs.1) ((told c).1.dead (look_killed _ (sym c.of.ensures ∙ killed)))

pub returns-clause-seen : goal.returns-clause-seen
returns-clause-seen c has = c.of.ensures ∙ killed_look _ ((told c).1.seen (subst (λ (v : SeatView). Contains v.known.seen c.args.e) (sym c.seat.view_is) has))

pub returns-clause-tried : goal.returns-clause-tried
returns-clause-tried c has = c.of.ensures ∙ killed_look _ ((told c).1.tried c.seat.invariant.idle (subst (λ (v : SeatView). Contains v.known.tried c.args.e) (sym c.seat.view_is) has))

pub returns-clause-settled : goal.returns-clause-settled
returns-clause-settled c quiet es live =
    let t = (told c).1.settled (ap (λ (v : SeatView). v.known.settled) c.seat.view_is ∙ quiet) es (subst (λ (n : NetworkParts). AreLive n es) (sym (ap (λ (v : SeatView). v.known.net) c.seat.view_is ∙ c.requires.belongs.1)) live) in
    ((λ is. t.0 (look_live _ (sym c.of.ensures ∙ is))), λ is. t.1 (look_killed _ (sym c.of.ensures ∙ is)))
