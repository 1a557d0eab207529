use Rattle.std.proofs.Common.{◌≡◌, ℕ, ◌*◌, ◌<◌, ◌≤◌, [], ◌∷◌, length, Contains, refl, sym, ap, ◌∙◌, subst, arith}
use Rattle.lmt_network.specs.Network.{NetworkParts}
use Rattle.lmt_network.specs.Numbers.{IsHullNumber, IsBroken}
use Rattle.lmt_network.proofs.Picked.{Contains-here}
use Rattle.edge_marks.specs.declared.view.Known.{Known}
use Rattle.mark_seats.specs.Keeping.{note_of}
use Rattle.edge_marks.specs.Handles.{SeatView, MarksView, IsSeated}
use Rattle.edge_marks.specs.Plays.{Sitting, begun_view, marked_view, ended_view}
use Rattle.edge_marks.specs.Told.{Remembers}
use Rattle.edge_marks.proofs.Remembering.{remembers_kill}
use Rattle.edge_marks.proofs.At.{begins_at, finishes_at}
use Rattle.edge_marks.proofs.Kills.{marks_by}
use Rattle.mark_seats.proofs.Keeping.{note_alone, note_written, kept_tried}
use Rattle.edge_marks.proofs.Sitters.{meets, marked_told, killed_told}
use Rattle.edge_marks.proofs.handles.Marks.kill.Goals as goal

pub exchange-requires : goal.exchange-requires
exchange-requires c = let p = c.seat.inside in let h = c.seat.invariant in (
  (meets _ _ _ _ c.seat.view_is c.self.view_is c.requires.belongs).0,
  (note_of p.place.me.1, h.keeps.note ∙ sym (note_alone h.keeps (note_of p.place.me.1))),
)

pub fetch_add-requires : goal.fetch_add-requires
fetch_add-requires c = let m = meets _ _ _ _ c.seat.view_is c.self.view_is c.requires.belongs in let h = c.seat.invariant in let i = c.self.invariant in let i₀ = i.0 in let i₁ = i.1 in let e = c.args.e in
    let n = ap (λ (v : MarksView). length v.net.edges) c.self.view_is in let b = c.begun-begun.ensures in
    let net = ap (λ (v : MarksView). v.net) c.self.view_is in let known = ap (λ (v : SeatView). v.known) c.seat.view_is in
    let now = note_written h.keeps c.seat.inside.place.me.0 e c.exchange.new.seat.me c.exchange.ensures.3 in let view = ap (λ (m : Sitting). m.0) now ∙ known in (
      c.exchange.ensures.0 ∙ m.0,
      omega arith,
      begins_at c.self.inside.table.shared.key _ _ c.exchange.new.seat.me _ (c.seat.inside.slot * 32) e (omega arith) (ap (λ (m : Sitting). m.1) now) (ap (λ (m : Sitting). m.0.phase) now ∙ h.idle)
          (subst (λ (n : NetworkParts). e < length n.edges) (sym net) c.requires.inside)
          (λ z. c.requires.inner (subst (λ (n : NetworkParts). IsHullNumber n e) net z))
          (λ z. c.requires.new (subst (λ (v : Known). Contains v.tried e) view z))
          (subst (λ (z : NetworkParts × Known). IsBroken z.0 z.1.seen e) (λ i. (sym net i, sym view i)) c.requires.broken),
    )

pub fetch_or-word-requires : goal.fetch_or-word-requires
fetch_or-word-requires c = let m = meets _ _ _ _ c.seat.view_is c.self.view_is c.requires.belongs in let h = c.seat.invariant in let i = c.self.invariant in let i₀ = i.0 in let i₁ = i.1 in let e = c.args.e in
    let n = ap (λ (v : MarksView). length v.net.edges) c.self.view_is in let low = c.requires.inside in
    let now = note_written h.keeps c.seat.inside.place.me.0 e c.exchange.new.seat.me c.exchange.ensures.3 in let next = (c.fetch_add.ensures.2 (c.seat.inside.slot * 32) e (ap (λ (m : Sitting). m.1) now)).0 in (
      c.fetch_add.ensures.0 ∙ (c.exchange.ensures.0 ∙ m.0),
      omega arith,
      marks_by c.self.inside.table.shared.key _ _ c.fetch_add.new.seat.me e _ c.mask.ensures (ap (λ (m : Sitting). m.0.phase) next),
    )

-- the seat in the midst of the kill
amidst : (c : goal.After-fetch_add-arg-2-1) → c.fetch_or-word.new.seat.me ≡ (marked_view c.args.e c.fetch_or-word.result (begun_view c.begun-begun.result c.args.e c.fetch_add.result c.seat.inside.place.me.0), (c.seat.inside.slot * 32, c.args.e) ∷ [])
amidst c = let now = note_written c.seat.invariant.keeps c.seat.inside.place.me.0 c.args.e c.exchange.new.seat.me c.exchange.ensures.3 in
    marked_told c.seat.inside.place.me.0 (c.seat.inside.slot * 32) c.begun-begun.result c.args.e c.fetch_add.result c.fetch_or-word.result c.exchange.new.seat.me c.fetch_add.new.seat.me c.fetch_or-word.new.seat.me now c.fetch_add.ensures.2 c.fetch_or-word.ensures.2

pub fetch_add-requires-2 : goal.fetch_add-requires-2
fetch_add-requires-2 c = let m = meets _ _ _ _ c.seat.view_is c.self.view_is c.requires.belongs in let i = c.self.invariant in let i₀ = i.0 in let i₁ = i.1 in
    let n = ap (λ (v : MarksView). length v.net.edges) c.self.view_is in let b = c.finished-finished.ensures in (
      c.fetch_or-word.ensures.0 ∙ (c.fetch_add.ensures.0 ∙ (c.exchange.ensures.0 ∙ m.0)),
      omega arith,
      finishes_at c.self.inside.table.shared.key _ _ c.fetch_or-word.new.seat.me _ c.args.e (omega arith) (ap (λ (m : Sitting). m.0.phase) (amidst c)),
    )

-- the seat after the kill
after : (c : goal.After-of) → c.fetch_add-2.new.seat.me ≡ (ended_view c.finished-finished.result c.args.e c.fetch_add-2.result (marked_view c.args.e c.fetch_or-word.result (begun_view c.begun-begun.result c.args.e c.fetch_add.result c.seat.inside.place.me.0)), (c.seat.inside.slot * 32, c.args.e) ∷ [])
after c = let d = c.seat.inside.place.me.0 in let slot = c.seat.inside.slot * 32 in let now = note_written c.seat.invariant.keeps c.seat.inside.place.me.0 c.args.e c.exchange.new.seat.me c.exchange.ensures.3 in
    killed_told d slot c.begun-begun.result c.finished-finished.result c.args.e c.fetch_add.result c.fetch_or-word.result c.fetch_add-2.result c.fetch_or-word.new.seat.me c.fetch_add-2.new.seat.me
    (marked_told d slot c.begun-begun.result c.args.e c.fetch_add.result c.fetch_or-word.result c.exchange.new.seat.me c.fetch_add.new.seat.me c.fetch_or-word.new.seat.me now c.fetch_add.ensures.2 c.fetch_or-word.ensures.2)
    c.fetch_add-2.ensures.2

pub invariant_of-seat : goal.invariant_of-seat
invariant_of-seat c = subst (λ (m : Sitting). IsSeated m.0 m.1 c.seat.inside.slot c.set_bit.new.bits.items c.seat.inside.spare.items) (sym (after c))
    record { idle = refl; keeps = kept_tried c.seat.invariant.keeps c.args.e c.args.e c.set_bit.new.bits.items c.set_bit.ensures.count c.set_bit.ensures.here c.set_bit.ensures.others }

pub returns-clause-kept : goal.returns-clause-kept
returns-clause-kept c = let now = note_written c.seat.invariant.keeps c.seat.inside.place.me.0 c.args.e c.exchange.new.seat.me c.exchange.ensures.3 in
    let low = subst (λ (m : Sitting). m.0.low ≤ c.fetch_add.result) now (c.fetch_add.ensures.2 (c.seat.inside.slot * 32) c.args.e (ap (λ (m : Sitting). m.1) now)).1 in
    subst (λ (z : Known × Known). Remembers z.0 z.1) (λ i. (ap (λ (v : SeatView). v.known) c.seat.view_is i, ap (λ (m : Sitting). m.0) (sym (after c)) i))
    (remembers_kill c.begun-begun.result c.finished-finished.result c.args.e c.fetch_add.result c.fetch_or-word.result c.fetch_add-2.result c.seat.inside.place.me.0 low)

pub returns-clause-tried : goal.returns-clause-tried
returns-clause-tried c = subst (λ (m : Sitting). Contains m.0.tried c.args.e) (sym (after c)) (Contains-here c.args.e c.seat.inside.place.me.0.tried)

pub returns-clause-seen : goal.returns-clause-seen
returns-clause-seen c = subst (λ (m : Sitting). Contains m.0.seen c.args.e) (sym (after c)) (Contains-here c.args.e c.seat.inside.place.me.0.seen)

pub returns-clause-steps : goal.returns-clause-steps
returns-clause-steps c = let b = c.begun-begun.ensures in let b' = c.finished-finished.ensures in (
  c.fetch_add.result,
  c.fetch_or-word.result,
  c.fetch_add-2.result,
  c.of.ensures,
  ap (λ (m : Sitting). m.0) (after c)
      ∙ ap (λ (z : ℕ × ℕ × Known). ended_view z.1 c.args.e c.fetch_add-2.result (marked_view c.args.e c.fetch_or-word.result (begun_view z.0 c.args.e c.fetch_add.result z.2))) (λ i. (b i, b' i, ap (λ (v : SeatView). v.known) c.seat.view_is i)),
)
