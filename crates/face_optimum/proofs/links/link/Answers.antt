-- The link along the side, by the seat of its edge or by the place where it stands.
use Rattle.std.proofs.Common.{◌≡◌, None, Some, sym, ◌∙◌, ap, arith}
use Rattle.face_optimum.specs.declared.seat.EdgeSeat.{EdgeSeat}
use Rattle.face_optimum.proofs.OneLink.{edge_link, edge_link_only, side_link, side_link_none, side_link_only}
use Rattle.face_optimum.proofs.links.link.Goals as goal

some_has : (s : EdgeSeat) → None ≡ Some s → ⊥
some_has s h = cc

pub from_place_of-requires-clause-face_in : goal.from_place_of-requires-clause-face_in
from_place_of-requires-clause-face_in c = (c.requires.edges_are.seats_are.sound c.args.e c.in-Some.seat c.in-Some.is).0

pub from_place_of-requires-clause-first_in : goal.from_place_of-requires-clause-first_in
from_place_of-requires-clause-first_in c =
    let at = (c.requires.edges_are.seats_are.sound c.args.e c.in-Some.seat c.in-Some.is).1 in
    let below = at.below in
    let last_in = at.last_in in
    omega arith

pub returns-in-Some-clause-is : goal.returns-in-Some-clause-is
returns-in-Some-clause-is c =
    edge_link c.args.net.now c.args.rings.now c.args.off.now c.requires.ascending c.requires.on c.args.u c.args.v c.args.e c.requires.number c.args.edges.now c.requires.edges_are c.if-off-e.true c.requires.apart c.in-Some.seat c.in-Some.is
    c.from_place_of.result c.from_place_of.ensures.first c.from_place_of.ensures.last

pub returns-in-Some-clause-only : goal.returns-in-Some-clause-only
returns-in-Some-clause-only c = λ x h.
    ap Some (sym (edge_link_only c.args.net.now c.args.rings.now c.args.off.now c.requires.ascending c.requires.on c.args.u c.args.v c.args.e c.requires.number c.args.edges.now c.requires.edges_are c.if-off-e.true c.requires.apart c.in-Some.seat c.in-Some.is
    c.from_place_of.result c.from_place_of.ensures.first c.from_place_of.ensures.last x h))

pub returns-in-None-clause-only : goal.returns-in-None-clause-only
returns-in-None-clause-only c = λ x h.
    let (s, has) = c.requires.edges_are.some c.args.e (c.requires.number.0, c.if-off-e.true) in
    absurd (some_has s (sym c.in-None.is ∙ has))

pub to_next_place-requires-clause-face_in : goal.to_next_place-requires-clause-face_in
to_next_place-requires-clause-face_in c = (c.requires.sides_are.seats_are.sound c.side_number.result c.in-Some-sides.seat c.in-Some-sides.is).face_in

pub to_next_place-requires-clause-place_in : goal.to_next_place-requires-clause-place_in
to_next_place-requires-clause-place_in c = (c.requires.sides_are.seats_are.sound c.side_number.result c.in-Some-sides.seat c.in-Some-sides.is).place_in

pub returns-in-Some-sides-clause-is : goal.returns-in-Some-sides-clause-is
returns-in-Some-sides-clause-is c =
    rw c.to_next_place.ensures
    (side_link c.args.net.now c.args.rings.now c.args.off.now c.requires.ascending c.requires.on c.args.u c.args.v c.args.e c.requires.number c.args.sides.now c.requires.sides_are c.if-off-e.false c.side_number.result c.side_number.ensures.within c.side_number.ensures.start c.side_number.ensures.end_ c.in-Some-sides.seat c.in-Some-sides.is)

pub returns-in-Some-sides-clause-only : goal.returns-in-Some-sides-clause-only
returns-in-Some-sides-clause-only c = λ x h.
    ap Some (c.to_next_place.ensures ∙ sym (side_link_only c.args.net.now c.args.rings.now c.args.off.now c.requires.ascending c.requires.on c.args.u c.args.v c.args.e c.requires.number c.args.sides.now c.requires.sides_are c.if-off-e.false c.side_number.result c.side_number.ensures.within c.side_number.ensures.start c.side_number.ensures.end_ c.in-Some-sides.seat c.in-Some-sides.is x h))

pub returns-in-None-sides-clause-only : goal.returns-in-None-sides-clause-only
returns-in-None-sides-clause-only c = λ x h.
    absurd (side_link_none c.args.net.now c.args.rings.now c.args.off.now c.requires.ascending c.requires.on c.args.u c.args.v c.args.e c.requires.number c.args.sides.now c.requires.sides_are c.if-off-e.false c.side_number.result c.side_number.ensures.within c.side_number.ensures.start c.side_number.ensures.end_ c.in-None-sides.is x h)
