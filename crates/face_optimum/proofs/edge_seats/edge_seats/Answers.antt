-- No edge has two seats, and each has one.
use Rattle.std.proofs.Common.{◌≡◌, List, Option, sym, ◌∙◌, ap, subst, inl, arith}
use Rattle.std.proofs.lemmas.Bool.{OnFalse_at, OnTrue_at}
use Rattle.std.proofs.lemmas.List.{with_items_is}
use Rattle.face_optimum.specs.declared.seat.EdgeSeat.{EdgeSeat}
use Rattle.face_optimum.specs.SeatTables.{AreEdgeSeats, AreSeats, seat_at}
use Rattle.face_optimum.proofs.EdgeSeating.{edge_seats_all, seat_lacks, seats_none}
use Rattle.face_optimum.proofs.edge_seats.edge_seats.Goals as goal

pub seat_edges-requires-clause-seats_are : goal.seat_edges-requires-clause-seats_are
seat_edges-requires-clause-seats_are c =
    subst (AreSeats c.args.net.now c.args.rings.now) (sym (c.deref_mut.ensures.value ∙ c.in_ok-seats.ensures)) (seats_none c.args.net.now c.args.rings.now c.edges.result c.edges.ensures.value)

pub returns-then-not-seat_edges-clause-none : goal.returns-then-not-seat_edges-clause-none
returns-then-not-seat_edges-clause-none c = λ _. inl (OnFalse_at c.if-not-seat_edges.true c.seat_edges.ensures.two)

pub returns-then-not-are_all_seated-clause-none : goal.returns-then-not-are_all_seated-clause-none
returns-then-not-are_all_seated-clause-none c = λ _.
    let (e, e_in, is_off, none) = OnFalse_at c.if-not-are_all_seated.true c.are_all_seated.ensures.not_all in
    let now : c.deref.result.now ≡ c.seat_edges.new.seats = c.deref.ensures.value ∙ with_items_is c.in_ok-seats.seats c.seat_edges.new.seats (c.seat_edges.auto.seats ∙ c.deref_mut.ensures.len) in
    seat_lacks c.args.net.now c.args.rings.now c.args.off.now c.deref_mut.result.now c.seat_edges.new.seats e (OnTrue_at c.if-not-seat_edges.false c.seat_edges.ensures.seated)
    (omega (arith, e_in, c.requires.one_each), is_off) (ap (λ (seats : List (Option EdgeSeat)). seat_at seats e) (sym now) ∙ none)

pub returns-clause-some : goal.returns-clause-some
returns-clause-some c =
    let items = with_items_is c.in_ok-seats.seats c.seat_edges.new.seats (c.seat_edges.auto.seats ∙ c.deref_mut.ensures.len) in
    let now : c.deref.result.now ≡ c.seat_edges.new.seats = c.deref.ensures.value ∙ items in
    subst (AreEdgeSeats c.args.net.now c.args.rings.now c.args.off.now) (sym items)
    (edge_seats_all c.args.net.now c.args.rings.now c.args.off.now c.deref_mut.result.now c.seat_edges.new.seats (OnTrue_at c.if-not-seat_edges.false c.seat_edges.ensures.seated) c.requires.one_each
    (rw now at (c.are_all_seated.ensures.yes_all c.if-not-are_all_seated.false)))
