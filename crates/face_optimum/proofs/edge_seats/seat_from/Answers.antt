-- One later place more.
use Rattle.std.proofs.Common.{◌≡◌, ◌<◌, ◌+◌, ℕ, length, ap, subst, ⊎_elim, inl, inr, arith}
use Rattle.std.proofs.lemmas.Bool.{OnFalse_at, OnTrue_at, cases_lt}
use Rattle.face_optimum.specs.declared.seat.EdgeSeat.{EdgeSeat}
use Rattle.face_optimum.specs.Places.{face_at}
use Rattle.face_optimum.proofs.EdgeSeating.{EdgeSeat-equal, seated_fewer, seated_none, seated_then}
use Rattle.face_optimum.proofs.edge_seats.seat_from.Goals as goal

pub loop-last-init : goal.loop-last-init
loop-last-init c =
    seated_none c.args.net.now c.args.rings.now c.args.off.now (λ (s : EdgeSeat). (s.face ≡ c.args.face) × (s.first ≡ c.args.first) × (s.last < c.args.first + 1)) c.args.seats.now c.requires.seats_are
    (λ e s p is_off at. let l = at.1.below in absurd (omega (arith, p.1, p.2)))

pub returns-then-not-seat_pair-clause-two : goal.returns-then-not-seat_pair-clause-two
returns-then-not-seat_pair-clause-two c = OnFalse_at c.if-not-seat_pair.true c.seat_pair.ensures.two

pub loop-last-preserved : goal.loop-last-preserved
loop-last-preserved c =
    let seat : EdgeSeat = record { face = c.args.face; first = c.args.first; last = c.loop-last.last } in
    seated_then c.args.net.now c.args.rings.now c.args.off.now
    (λ (s : EdgeSeat). (s.face ≡ c.args.face) × (s.first ≡ c.args.first) × (s.last < c.loop-last.last)) (λ (s : EdgeSeat). s ≡ seat)
    (λ (s : EdgeSeat). (s.face ≡ c.args.face) × (s.first ≡ c.args.first) × (s.last < c.loop-last.last + 1))
    c.args.seats.now c.loop-last.seats c.seat_pair.new.seats c.loop-last.invariant (OnTrue_at c.if-not-seat_pair.false c.seat_pair.ensures.seated)
    (λ e s r at. ⊎_elim (λ l. inl (r.0, r.1, l)) (λ l. inr (EdgeSeat-equal s seat r.0 r.1 (omega (arith, r.2)))) (cases_lt s.last c.loop-last.last))

pub returns-clause-seated : goal.returns-clause-seated
returns-clause-seated c =
    seated_fewer c.args.net.now c.args.rings.now c.args.off.now
    (λ (s : EdgeSeat). (s.face ≡ c.args.face) × (s.first ≡ c.args.first) × (s.last < c.loop-last.last)) (λ (s : EdgeSeat). (s.face ≡ c.args.face) × (s.first ≡ c.args.first))
    c.args.seats.now c.loop-last.seats c.loop-last.invariant
    (λ e s r at.
    let in_face : s.last < length (face_at c.args.rings.now c.args.face) = subst (λ (f : ℕ). s.last < length (face_at c.args.rings.now f)) r.0 at.1.last_in in
    (r.0, r.1, omega (arith, in_face, ap length c.ring.ensures.value, c.loop-last-test.false)))
