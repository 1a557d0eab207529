-- One face more.
use Rattle.std.proofs.Common.{◌≡◌, ◌<◌, ◌+◌, length, ⊎_elim, inl, inr, arith}
use Rattle.std.proofs.lemmas.Bool.{OnFalse_at, OnTrue_at, cases_lt}
use Rattle.face_optimum.specs.declared.seat.EdgeSeat.{EdgeSeat}
use Rattle.face_optimum.proofs.EdgeSeating.{seated_fewer, seated_none, seated_then}
use Rattle.face_optimum.proofs.edge_seats.seat_edges.Goals as goal

pub loop-face-init : goal.loop-face-init
loop-face-init c =
    seated_none c.args.net.now c.args.rings.now c.args.off.now (λ (s : EdgeSeat). s.face < 0) c.args.seats.now c.requires.seats_are (λ e s p is_off at. absurd (omega (arith, p)))

pub returns-then-not-seat_in_face-clause-two : goal.returns-then-not-seat_in_face-clause-two
returns-then-not-seat_in_face-clause-two c = OnFalse_at c.if-not-seat_in_face.true c.seat_in_face.ensures.two

pub loop-face-preserved : goal.loop-face-preserved
loop-face-preserved c =
    seated_then c.args.net.now c.args.rings.now c.args.off.now
    (λ (s : EdgeSeat). s.face < c.loop-face.face) (λ (s : EdgeSeat). s.face ≡ c.loop-face.face) (λ (s : EdgeSeat). s.face < c.loop-face.face + 1)
    c.args.seats.now c.loop-face.seats c.seat_in_face.new.seats c.loop-face.invariant (OnTrue_at c.if-not-seat_in_face.false c.seat_in_face.ensures.seated)
    (λ e s r at. ⊎_elim (λ l. inl l) (λ l. inr (omega (arith, r))) (cases_lt s.face c.loop-face.face))

pub returns-clause-seated : goal.returns-clause-seated
returns-clause-seated c =
    seated_fewer c.args.net.now c.args.rings.now c.args.off.now (λ (s : EdgeSeat). s.face < c.loop-face.face) (λ (s : EdgeSeat). s.face < length c.args.rings.now)
    c.args.seats.now c.loop-face.seats c.loop-face.invariant (λ e s r at. omega (arith, r, c.loop-face-test.false, c.len-face-end.ensures))
