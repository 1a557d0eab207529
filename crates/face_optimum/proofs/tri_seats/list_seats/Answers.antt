-- One triangle more.
use Rattle.std.proofs.Common.{◌≡◌, ◌+◌, ℕ, length, sym, subst, refl, arith}
use Rattle.face_optimum.specs.SeatTables.{AreTriSeats}
use Rattle.face_optimum.proofs.TriTables.{nowhere, tri_seats_more}
use Rattle.face_optimum.proofs.tri_seats.list_seats.Goals as goal

pub loop-t-preserved : goal.loop-t-preserved
loop-t-preserved c =
    subst (AreTriSeats c.args.net.now c.args.flags.now c.args.rings.now c.args.off.now (c.loop-t.t + 1)) (sym c.in_ok-push-in-Some.ensures.items)
    (tri_seats_more c.args.net.now c.args.flags.now c.args.rings.now c.args.off.now c.loop-t.t c.loop-t.seats.items c.in-Some.seat c.loop-t.invariant c.in-Some.ensures.is c.in-Some.ensures.only)

pub returns-in-None-clause-none : goal.returns-in-None-clause-none
returns-in-None-clause-none c = λ _. nowhere c.args.net.now c.args.flags.now c.args.rings.now c.args.off.now c.loop-t.t (omega (arith, c.loop-t-test.true, c.tris-t-end.ensures.value)) (c.in-None.ensures.live refl) c.in-None.ensures.only

pub returns-clause-some : goal.returns-clause-some
returns-clause-some c =
    let all : c.loop-t.t ≡ length c.args.net.now.tris = omega (arith, c.loop-t-test.false, c.loop-t.auto.t-end, c.tris-t-end.ensures.value) in
    subst (λ (k : ℕ). AreTriSeats c.args.net.now c.args.flags.now c.args.rings.now c.args.off.now k c.loop-t.seats.items) all c.loop-t.invariant
