-- One place more.
use Rattle.std.proofs.Common.{◌≡◌, ◌<◌, ◌+◌, ℕ, length, ap, subst, ⊎_elim, inl, inr, arith}
use Rattle.std.proofs.lemmas.Bool.{cases_lt}
use Rattle.face_optimum.specs.declared.seat.SideSeat.{SideSeat}
use Rattle.face_optimum.specs.Places.{face_at}
use Rattle.face_optimum.proofs.FaceFacts.{SideSeat-equal}
use Rattle.face_optimum.proofs.SideSeating.{sides_fewer, sides_none, sides_then}
use Rattle.face_optimum.proofs.side_seats.seat_sides_of.Goals as goal

pub loop-place-init : goal.loop-place-init
loop-place-init c =
    sides_none c.args.net.now c.args.rings.now (λ (s : SideSeat). (s.face ≡ c.args.face) × (s.place < 0)) c.args.seats.now c.requires.seats_are (λ k s p k_in at. absurd (omega (arith, p.1)))

pub loop-place-preserved : goal.loop-place-preserved
loop-place-preserved c =
    let seat : SideSeat = record { face = c.args.face; place = c.loop-place.place } in
    sides_then c.args.net.now c.args.rings.now (λ (s : SideSeat). (s.face ≡ c.args.face) × (s.place < c.loop-place.place)) (λ (s : SideSeat). s ≡ seat)
    (λ (s : SideSeat). (s.face ≡ c.args.face) × (s.place < c.loop-place.place + 1))
    c.args.seats.now c.loop-place.seats c.seat_side.new.seats c.loop-place.invariant c.seat_side.ensures
    (λ u v s r at. ⊎_elim (λ l. inl (r.0, l)) (λ l. inr (SideSeat-equal s seat r.0 (omega (arith, r.1)))) (cases_lt s.place c.loop-place.place))

pub returns : goal.returns
returns c =
    sides_fewer c.args.net.now c.args.rings.now (λ (s : SideSeat). (s.face ≡ c.args.face) × (s.place < c.loop-place.place)) (λ (s : SideSeat). s.face ≡ c.args.face)
    c.args.seats.now c.loop-place.seats c.loop-place.invariant
    (λ u v s r at.
    let in_face : s.place < length (face_at c.args.rings.now c.args.face) = subst (λ (f : ℕ). s.place < length (face_at c.args.rings.now f)) r at.place_in in
    (r, omega (arith, in_face, ap length c.ring.ensures.value, c.loop-place-test.false)))
