use Rattle.std.proofs.Common.{◌≡◌, ℕ, ◌+◌, ◌*◌, ◌<◌, ◌≤◌, [], ◌∷◌, length, Contains, refl, sym, ap, ◌∙◌, subst, arith}
use Rattle.lmt_network.specs.Network.{NetworkParts}
use Rattle.lmt_network.specs.Numbers.{IsHullNumber, IsBroken}
use Rattle.lmt_network.proofs.Picked.{Contains-here}
use Rattle.ticket_marks.specs.declared.view.Known.{Known}
use Rattle.mark_seats.specs.Keeping.{note_of}
use Rattle.ticket_marks.specs.Handles.{SeatView, TicketsView, IsSeated}
use Rattle.ticket_marks.specs.Plays.{Sitting, now_mark, drawn_view, killed_view}
use Rattle.ticket_marks.specs.Rule.{ranked, edges_seen}
use Rattle.ticket_marks.specs.Told.{Remembers}
use Rattle.ticket_marks.proofs.Kills.{draws_at, stores}
use Rattle.ticket_marks.proofs.Remembering.{remembers_kill}
use Rattle.mark_seats.proofs.Keeping.{note_alone, note_written, kept_tried}
use Rattle.ticket_marks.proofs.Sitters.{meets, stays, killed_told}
use Rattle.ticket_marks.proofs.handles.TicketMarks.kill.Goals as goal

pub exchange-requires : goal.exchange-requires
exchange-requires c = let p = c.seat.inside in let h = c.seat.invariant in (
  (meets _ _ _ _ c.seat.view_is c.self.view_is c.requires.belongs).0,
  (note_of p.place.me.1, h.keeps.note ∙ sym (note_alone h.keeps (note_of p.place.me.1))),
)

pub fetch_add-ticket-requires : goal.fetch_add-ticket-requires
fetch_add-ticket-requires c = let m = meets _ _ _ _ c.seat.view_is c.self.view_is c.requires.belongs in let h = c.seat.invariant in let i = c.self.invariant in let i₀ = i.0 in let i₁ = i.1 in let e = c.args.e in
    let n = ap (λ (v : TicketsView). length v.net.edges) c.self.view_is in let b = c.issued-issued.ensures.value in
    let net = ap (λ (v : TicketsView). v.net) c.self.view_is in let known = ap (λ (v : SeatView). v.known) c.seat.view_is in
    let now = note_written h.keeps c.seat.inside.place.me.0 e c.exchange.new.seat.me c.exchange.ensures.3 in let view = ap (λ (m : Sitting). m.0) now ∙ known in (
      c.exchange.ensures.0 ∙ m.0,
      omega arith,
      draws_at c.self.inside.table.shared.key _ _ c.exchange.new.seat.me _ (c.seat.inside.slot * 32) e (omega arith) (ap (λ (m : Sitting). m.1) now)
          (subst (λ (n : NetworkParts). e < length n.edges) (sym net) c.requires.inside)
          (λ z. c.requires.inner (subst (λ (n : NetworkParts). IsHullNumber n e) net z))
          (λ z. c.requires.new (subst (λ (v : Known). Contains v.tried e) view z))
          (subst (λ (z : NetworkParts × Known). IsBroken z.0 (edges_seen z.1.seen) e) (λ i. (sym net i, sym view i)) c.requires.broken),
    )

pub compare_exchange-mark-requires : goal.compare_exchange-mark-requires
compare_exchange-mark-requires c = let m = meets _ _ _ _ c.seat.view_is c.self.view_is c.requires.belongs in let i = c.self.invariant in let i₀ = i.0 in let i₁ = i.1 in
    let n = ap (λ (v : TicketsView). length v.net.edges) c.self.view_is in let low = c.requires.inside in
    let now = note_written c.seat.invariant.keeps c.seat.inside.place.me.0 c.args.e c.exchange.new.seat.me c.exchange.ensures.3 in
    let next = (c.fetch_add-ticket.ensures.2 (c.seat.inside.slot * 32) c.args.e (ap (λ (m : Sitting). m.1) now)).0 in (
      c.fetch_add-ticket.ensures.0 ∙ (c.exchange.ensures.0 ∙ m.0),
      omega arith,
      stores c.self.inside.table.shared.key _ _ c.fetch_add-ticket.new.seat.me c.args.e c.fetch_add-ticket.result _ (ap (λ (m : Sitting). m.0.drawn) next) refl,
    )

-- the ticket leaves room for a rank above it
room : (d : Known) (slot i e t E : ℕ) (m₁ m₂ : Sitting) → m₁ ≡ (d, (slot, e) ∷ []) → ((k g : ℕ) → m₁.1 ≡ (k, g) ∷ [] → (m₂ ≡ (drawn_view i g t m₁.0, m₁.1)) × (t + 1 ≤ 65 * length m₁.0.net.edges)) → length d.net.edges ≡ E → t + 1 ≤ 65 * E
room d slot i e t E m₁ m₂ is drew wide =
    let most = subst (λ (z : Sitting). t + 1 ≤ 65 * length z.0.net.edges) is (drew slot e (ap (λ (z : Sitting). z.1) is)).1 in
    omega arith

pub overflow_add-ticket : goal.overflow_add-ticket
overflow_add-ticket c =
    let now = note_written c.seat.invariant.keeps c.seat.inside.place.me.0 c.args.e c.exchange.new.seat.me c.exchange.ensures.3 in
    let most = room c.seat.inside.place.me.0 (c.seat.inside.slot * 32) c.issued-issued.result c.args.e c.fetch_add-ticket.result (length c.args.self.now.net.edges) c.exchange.new.seat.me c.fetch_add-ticket.new.seat.me now c.fetch_add-ticket.ensures.2
    (ap (λ (v : SeatView). length v.known.net.edges) c.seat.view_is ∙ ap (λ (n : NetworkParts). length n.edges) c.requires.belongs.1) in
    let issued = c.issued-issued.ensures.value in
    let bound = c.issued-issued.ensures.bound in
    omega arith

pub of-requires : goal.of-requires
of-requires c =
    let now = note_written c.seat.invariant.keeps c.seat.inside.place.me.0 c.args.e c.exchange.new.seat.me c.exchange.ensures.3 in
    let most = room c.seat.inside.place.me.0 (c.seat.inside.slot * 32) c.issued-issued.result c.args.e c.fetch_add-ticket.result (length c.args.self.now.net.edges) c.exchange.new.seat.me c.fetch_add-ticket.new.seat.me now c.fetch_add-ticket.ensures.2
    (ap (λ (v : SeatView). length v.known.net.edges) c.seat.view_is ∙ ap (λ (n : NetworkParts). length n.edges) c.requires.belongs.1) in
    let issued = c.issued-issued.ensures.value in
    let bound = c.issued-issued.ensures.bound in
    omega arith

-- the seat after the kill
after : (c : goal.After-of) → c.compare_exchange-mark.new.seat.me ≡ (killed_view c.args.e c.fetch_add-ticket.result c.compare_exchange-mark.result (drawn_view c.issued-issued.result c.args.e c.fetch_add-ticket.result c.seat.inside.place.me.0), (c.seat.inside.slot * 32, c.args.e) ∷ [])
after c = let now = note_written c.seat.invariant.keeps c.seat.inside.place.me.0 c.args.e c.exchange.new.seat.me c.exchange.ensures.3 in
    killed_told c.seat.inside.place.me.0 (c.seat.inside.slot * 32) c.issued-issued.result c.args.e c.fetch_add-ticket.result c.compare_exchange-mark.result c.exchange.new.seat.me c.fetch_add-ticket.new.seat.me c.compare_exchange-mark.new.seat.me now c.fetch_add-ticket.ensures.2 c.compare_exchange-mark.ensures.2

-- what a caller sees of it
known_after : (c : goal.After-of) → c.compare_exchange-mark.new.seat.me.0 ≡ killed_view c.args.e c.fetch_add-ticket.result c.compare_exchange-mark.result (drawn_view (length c.args.self.now.net.edges + 16) c.args.e c.fetch_add-ticket.result c.args.seat.now.known)
known_after c = ap (λ (m : Sitting). m.0) (after c)
    ∙ ap (λ (z : ℕ × Known). killed_view c.args.e c.fetch_add-ticket.result c.compare_exchange-mark.result (drawn_view z.0 c.args.e c.fetch_add-ticket.result z.1)) (λ i. (c.issued-issued.ensures.value i, ap (λ (v : SeatView). v.known) c.seat.view_is i))

pub invariant_of-seat : goal.invariant_of-seat
invariant_of-seat c = subst (λ (m : Sitting). IsSeated m.0 m.1 c.seat.inside.slot c.set_bit.new.bits.items c.seat.inside.spare.items) (sym (after c))
    record { idle = refl; keeps = kept_tried c.seat.invariant.keeps c.args.e c.args.e c.set_bit.new.bits.items c.set_bit.ensures.count c.set_bit.ensures.here c.set_bit.ensures.others }

pub returns-clause-kept : goal.returns-clause-kept
returns-clause-kept c = subst (Remembers c.args.seat.now.known) (sym (known_after c)) (remembers_kill (length c.args.self.now.net.edges + 16) c.args.e c.fetch_add-ticket.result c.compare_exchange-mark.result c.args.seat.now.known)

pub returns-clause-tried : goal.returns-clause-tried
returns-clause-tried c = subst (λ (d : Known). Contains d.tried c.args.e) (sym (known_after c)) (Contains-here c.args.e c.args.seat.now.known.tried)

pub returns-clause-steps : goal.returns-clause-steps
returns-clause-steps c = let t = c.fetch_add-ticket.result in let x = c.compare_exchange-mark.result in (
  t,
  x,
  c.of.ensures,
  (let now = note_written c.seat.invariant.keeps c.seat.inside.place.me.0 c.args.e c.exchange.new.seat.me c.exchange.ensures.3 in
      room c.seat.inside.place.me.0 (c.seat.inside.slot * 32) c.issued-issued.result c.args.e t (length c.args.self.now.net.edges) c.exchange.new.seat.me c.fetch_add-ticket.new.seat.me now c.fetch_add-ticket.ensures.2
      (ap (λ (v : SeatView). length v.known.net.edges) c.seat.view_is ∙ ap (λ (n : NetworkParts). length n.edges) c.requires.belongs.1)),
  subst (λ (d : Known). Contains d.seen (ranked c.args.e (now_mark t x))) (sym (known_after c)) (Contains-here (ranked c.args.e (now_mark t x)) c.args.seat.now.known.seen),
  known_after c,
)

pub returns-clause-seat : goal.returns-clause-seat
returns-clause-seat c = stays _ _ c.args.self.now _ _ _ c.seat.view_is c.requires.belongs
    (c.compare_exchange-mark.ensures.0 ∙ (c.fetch_add-ticket.ensures.0 ∙ c.exchange.ensures.0))
    (c.compare_exchange-mark.ensures.1 ∙ (c.fetch_add-ticket.ensures.1 ∙ c.exchange.ensures.1))
    (ap (λ (m : Sitting). m.0.net) (after c))
