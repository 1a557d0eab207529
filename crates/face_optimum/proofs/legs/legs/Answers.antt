use Rattle.face_optimum.proofs.Sides.{legs_ab, legs_bc, legs_ca}
use Rattle.face_optimum.proofs.legs.legs.Goals as goal

pub returns-then-ab-e : goal.returns-then-ab-e
returns-then-ab-e c =
    let s = c.sides.ensures in
    let bc = s.bc.0 in
    let ca = s.ca.0 in
    record { legs = legs_ab c.args.net.now c.args.t _ _ _ s.ab s.bc s.ca c.args.e c.if-ab-e.true; first_in = bc; second_in = ca }

pub returns-then-bc-e : goal.returns-then-bc-e
returns-then-bc-e c =
    let s = c.sides.ensures in
    let ca = s.ca.0 in
    let ab = s.ab.0 in
    record { legs = legs_bc c.args.net.now c.args.t _ _ _ s.ab s.bc s.ca c.args.e c.if-bc-e.true; first_in = ca; second_in = ab }

pub returns-else-bc-e : goal.returns-else-bc-e
returns-else-bc-e c =
    let s = c.sides.ensures in
    let ab = s.ab.0 in
    let bc = s.bc.0 in
    record { legs = legs_ca c.args.net.now c.args.t _ _ _ s.ab s.bc s.ca c.requires.network c.args.e c.if-ab-e.false c.if-bc-e.false; first_in = ab; second_in = bc }
