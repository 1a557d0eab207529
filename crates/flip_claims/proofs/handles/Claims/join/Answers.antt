use Rattle.std.proofs.Common.{sym, ap, ◌∙◌, subst, arith}
use Rattle.flip_claims.specs.declared.view.Known.{Known}
use Rattle.flip_claims.specs.Handles.{SeatView}
use Rattle.flip_claims.specs.Plays.{Sitting, joined_view}
use Rattle.flip_claims.specs.Told.{Remembers}
use Rattle.flip_claims.proofs.Remembering.{remembers_join}
use Rattle.flip_claims.proofs.Seats.{joins}
use Rattle.flip_claims.proofs.Sitters.{meets}
use Rattle.flip_claims.proofs.handles.Claims.join.Goals as goal

pub join_seat-requires : goal.join_seat-requires
join_seat-requires c = let i = c.self.invariant in let i₁ = i.1 in (
  meets _ _ _ _ c.seat.view_is c.self.view_is c.requires.belongs,
  meets _ _ _ _ c.other.view_is c.self.view_is c.requires.other,
  c.other.invariant.bare,
  omega arith,
  joins c.self.inside.table.shared.key _ _ c.seat.inside.place.me.0 c.other.inside.place.me.0,
)

pub returns-clause-kept : goal.returns-clause-kept
returns-clause-kept c =
    let is = ap (λ (m : Sitting). m.0) c.join_seat.ensures.2 ∙ ap (λ (z : Known × Known). joined_view z.0 z.1) (λ i. (ap (λ (v : SeatView). v.known) c.seat.view_is i, ap (λ (v : SeatView). v.known) c.other.view_is i)) in
    subst (Remembers c.args.seat.now.known) (sym is) (remembers_join c.args.seat.now.known c.args.other.known)
