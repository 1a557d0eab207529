-- One face more.
use Rattle.std.proofs.Common.{◌≡◌, ◌<◌, ◌+◌, length, ⊎_elim, inl, inr, arith}
use Rattle.std.proofs.lemmas.Bool.{cases_lt}
use Rattle.face_optimum.specs.declared.seat.SideSeat.{SideSeat}
use Rattle.face_optimum.proofs.SideSeating.{sides_fewer, sides_none, sides_then}
use Rattle.face_optimum.proofs.side_seats.seat_sides.Goals as goal

pub loop-face-init : goal.loop-face-init
loop-face-init c = sides_none c.args.net.now c.args.rings.now (λ (s : SideSeat). s.face < 0) c.args.seats.now c.requires.seats_are (λ k s p k_in at. absurd (omega (arith, p)))

pub loop-face-preserved : goal.loop-face-preserved
loop-face-preserved c =
    sides_then c.args.net.now c.args.rings.now (λ (s : SideSeat). s.face < c.loop-face.face) (λ (s : SideSeat). s.face ≡ c.loop-face.face) (λ (s : SideSeat). s.face < c.loop-face.face + 1)
    c.args.seats.now c.loop-face.seats c.seat_sides_of.new.seats c.loop-face.invariant c.seat_sides_of.ensures
    (λ u v s r at. ⊎_elim (λ l. inl l) (λ l. inr (omega (arith, r))) (cases_lt s.face c.loop-face.face))

pub returns : goal.returns
returns c =
    sides_fewer c.args.net.now c.args.rings.now (λ (s : SideSeat). s.face < c.loop-face.face) (λ (s : SideSeat). s.face < length c.args.rings.now)
    c.args.seats.now c.loop-face.seats c.loop-face.invariant (λ u v s r at. omega (arith, r, c.loop-face-test.false, c.len-face-end.ensures))
