use Rattle.std.proofs.Common.{◌≡◌, ◌+◌, ◌*◌, ◌<◌, [], ◌∷◌, refl, sym, ap, ◌∙◌, subst, arith}
use Rattle.mark_seats.proofs.Keeping.{kept_left, kept_right}
use Rattle.ticket_marks.specs.Handles.{SeatView, IsSeated}
use Rattle.ticket_marks.specs.Plays.{Sitting, left_view, right_view, noted_view}
use Rattle.ticket_marks.specs.Told.{Remembers}
use Rattle.ticket_marks.proofs.Remembering.{remembers_fork}
use Rattle.ticket_marks.proofs.Seats.{notes, splits}
use Rattle.ticket_marks.proofs.Sitters.{meets}
use Rattle.ticket_marks.proofs.handles.TicketMarks.split.Goals as goal

pub split_seat-place-requires : goal.split_seat-place-requires
split_seat-place-requires c = let i = c.self.invariant in let i₁ = i.1 in (
  (meets _ _ _ _ c.seat.view_is c.self.view_is c.requires.belongs).0,
  omega arith,
  splits c.self.inside.table.shared.key _ c.seat.inside.place.me.0 (subst (λ (v : SeatView). 0 < v.known.splits) (sym c.seat.view_is) c.requires.some_left),
)

pub load-requires : goal.load-requires
load-requires c = let i = c.self.invariant in let i₁ = i.1 in let made = c.split_seat-place.ensures.4 in (
  c.split_seat-place.ensures.3 ∙ (meets _ _ _ _ c.seat.view_is c.self.view_is c.requires.belongs).0,
  omega arith,
  notes c.self.inside.table.shared.key _ _ c.split_seat-place.result.me (ap (λ (m : Sitting). m.1) made) (ap (λ (m : Sitting). m.0.noted) made),
)

pub returns-clause-kept : goal.returns-clause-kept
returns-clause-kept c = subst (Remembers c.args.seat.now.known) (sym (ap (λ (m : Sitting). m.0) c.split_seat-place.ensures.2 ∙ ap (λ (v : SeatView). left_view v.known) c.seat.view_is)) (remembers_fork c.args.seat.now.known)

pub invariant_of-seat : goal.invariant_of-seat
invariant_of-seat c = let row = c.in-Some.ensures in
    subst (λ (m : Sitting). IsSeated m.0 m.1 c.seat.inside.slot c.seat.inside.bits.items c.pop.new.self.items) (sym c.split_seat-place.ensures.2)
    record { idle = c.seat.invariant.idle; keeps = kept_left c.seat.invariant.keeps c.pop.new.self.items c.in-Some.bits row.items }

pub invariant_of-result : goal.invariant_of-result
invariant_of-result c = let row = c.in-Some.ensures in let told = c.load.ensures.2 in
    let is : c.load.new.seat.me ≡ (noted_view (right_view c.seat.inside.place.me.0), ((c.seat.inside.place.me.0.slot + c.seat.inside.place.me.0.splits) * 32, told.0) ∷ []) =
    told.1 ∙ ap (λ (m : Sitting). let v : Sitting = (noted_view m.0, (m.0.slot * 32, told.0) ∷ []) in v) c.split_seat-place.ensures.4 in
    subst (λ (m : Sitting). IsSeated m.0 m.1 (c.seat.inside.slot + c.len.result + 1) c.in-Some.bits.items c.new.result.items) (sym is)
    record { idle = refl; keeps = kept_right c.seat.invariant.keeps c.pop.new.self.items c.in-Some.bits row.items told.0 (c.seat.inside.slot + c.len.result + 1) (let l = c.len.ensures in omega arith) c.new.result.items c.new.ensures.items }
