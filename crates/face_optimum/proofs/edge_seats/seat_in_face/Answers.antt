-- One place more.
use Rattle.std.proofs.Common.{◌≡◌, ◌<◌, ◌+◌, ℕ, length, ap, subst, ⊎_elim, inl, inr, arith}
use Rattle.std.proofs.lemmas.Bool.{OnFalse_at, OnTrue_at, cases_lt}
use Rattle.face_optimum.specs.declared.seat.EdgeSeat.{EdgeSeat}
use Rattle.face_optimum.specs.Places.{face_at}
use Rattle.face_optimum.proofs.EdgeSeating.{seated_fewer, seated_none, seated_then}
use Rattle.face_optimum.proofs.edge_seats.seat_in_face.Goals as goal

pub loop-first-init : goal.loop-first-init
loop-first-init c =
    seated_none c.args.net.now c.args.rings.now c.args.off.now (λ (s : EdgeSeat). (s.face ≡ c.args.face) × (s.first < 0)) c.args.seats.now c.requires.seats_are
    (λ e s p is_off at. absurd (omega (arith, p.1)))

pub returns-then-not-seat_from-clause-two : goal.returns-then-not-seat_from-clause-two
returns-then-not-seat_from-clause-two c = OnFalse_at c.if-not-seat_from.true c.seat_from.ensures.two

pub loop-first-preserved : goal.loop-first-preserved
loop-first-preserved c =
    seated_then c.args.net.now c.args.rings.now c.args.off.now
    (λ (s : EdgeSeat). (s.face ≡ c.args.face) × (s.first < c.loop-first.first)) (λ (s : EdgeSeat). (s.face ≡ c.args.face) × (s.first ≡ c.loop-first.first))
    (λ (s : EdgeSeat). (s.face ≡ c.args.face) × (s.first < c.loop-first.first + 1))
    c.args.seats.now c.loop-first.seats c.seat_from.new.seats c.loop-first.invariant (OnTrue_at c.if-not-seat_from.false c.seat_from.ensures.seated)
    (λ e s r at. ⊎_elim (λ l. inl (r.0, l)) (λ l. inr (r.0, omega (arith, r.1))) (cases_lt s.first c.loop-first.first))

pub returns-clause-seated : goal.returns-clause-seated
returns-clause-seated c =
    seated_fewer c.args.net.now c.args.rings.now c.args.off.now
    (λ (s : EdgeSeat). (s.face ≡ c.args.face) × (s.first < c.loop-first.first)) (λ (s : EdgeSeat). s.face ≡ c.args.face)
    c.args.seats.now c.loop-first.seats c.loop-first.invariant
    (λ e s r at.
    let in_face : s.last < length (face_at c.args.rings.now c.args.face) = subst (λ (f : ℕ). s.last < length (face_at c.args.rings.now f)) r at.1.last_in in
    let below = at.1.below in
    (r, omega (arith, in_face, ap length c.ring.ensures.value, c.loop-first-test.false)))
