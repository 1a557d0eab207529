-- All sides have their places.
use Rattle.std.proofs.Common.{◌*◌, sym, ◌∙◌, subst, arith}
use Rattle.std.proofs.lemmas.List.{with_items_is}
use Rattle.face_optimum.specs.SeatTables.{AreAllSides, AreSideSeats}
use Rattle.face_optimum.proofs.SideSeating.{side_seats_none}
use Rattle.face_optimum.proofs.side_seats.side_seats.Goals as goal

pub seat_sides-requires-clause-seats_are : goal.seat_sides-requires-clause-seats_are
seat_sides-requires-clause-seats_are c =
    subst (AreSideSeats c.args.net.now c.args.rings.now) (sym (c.deref_mut.ensures.value ∙ c.in_ok-seats.ensures)) (side_seats_none c.args.net.now c.args.rings.now (2 * c.edges.result) (omega (arith, c.edges.ensures.value)))

pub returns : goal.returns
returns c =
    let items = with_items_is c.in_ok-seats.seats c.seat_sides.new.seats (c.seat_sides.auto.seats ∙ c.deref_mut.ensures.len) in
    let seated = c.seat_sides.ensures in
    subst (AreAllSides c.args.net.now c.args.rings.now) (sym items) (record { seats_are = seated.seats; all = λ k s k_in at. seated.all k s at.face_in k_in at })
