use Rattle.std.proofs.Common.{◌<◌, sym, ap, ◌∙◌, subst, arith}
use Rattle.flip_claims.specs.Handles.{SeatView}
use Rattle.flip_claims.specs.Plays.{Sitting, left_view}
use Rattle.flip_claims.specs.Told.{Remembers}
use Rattle.flip_claims.proofs.Remembering.{remembers_split}
use Rattle.flip_claims.proofs.Seats.{splits}
use Rattle.flip_claims.proofs.Sitters.{meets}
use Rattle.flip_claims.proofs.handles.Claims.split.Goals as goal

pub split_seat-place-requires : goal.split_seat-place-requires
split_seat-place-requires c = let i = c.self.invariant in let i₁ = i.1 in (
  meets _ _ _ _ c.seat.view_is c.self.view_is c.requires.belongs,
  omega arith,
  splits c.self.inside.table.shared.key _ c.seat.inside.place.me.0 (subst (λ (v : SeatView). 0 < v.known.splits) (sym c.seat.view_is) c.requires.some_left) c.seat.invariant.shares,
)

pub returns-clause-kept : goal.returns-clause-kept
returns-clause-kept c = subst (Remembers c.args.seat.now.known) (sym (ap (λ (m : Sitting). m.0) c.split_seat-place.ensures.2 ∙ ap (λ (v : SeatView). left_view v.known) c.seat.view_is)) (remembers_split c.args.seat.now.known)
