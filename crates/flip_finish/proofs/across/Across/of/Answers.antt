-- The two faces are there, and have the edge.
use Rattle.std.proofs.Common.{sym, inl, inr}
use Rattle.flip_finish.specs.Places.{IsAt}
use Rattle.flip_finish.proofs.Seeing.{HasLeft-down, HasLeft-up, IsAcross-seen, corner_there, face_in}
use Rattle.flip_finish.proofs.across.Across.of.Goals as goal

pub returns-in_err-i : goal.returns-in_err-i
returns-in_err-i c =
    rw c.from_residual.ensures
    (record { it = c.index-slots-slot.result; it_at = record { inside = c.requires.in_slots; is = sym c.index-slots-slot.is }; lacks = inl c.in_err-i.was })

pub returns-in_err-j : goal.returns-in_err-j
returns-in_err-j c =
    rw c.from_residual-in_err-j.ensures
    (record { it = c.index-slots-slot.result; it_at = record { inside = c.requires.in_slots; is = sym c.index-slots-slot.is }; lacks = inr c.in_err-j.was })

pub bounds-faces-i : goal.bounds-faces-i
bounds-faces-i c =
    let it = c.index-slots-slot.result in
    face_in _ c.args.slots.now c.args.slot it.edge.a it.edge.b c.in_ok-i.i c.requires.fits
    (HasLeft-up _ _ _ it (record { inside = c.requires.in_slots; is = sym c.index-slots-slot.is }) c.in_ok-i.was)

pub seen_from-requires : goal.seen_from-requires
seen_from-requires c =
    let it = c.index-slots-slot.result in
    let up = HasLeft-up c.args.slots.now c.args.slot c.in_ok-i.i it (record { inside = c.requires.in_slots; is = sym c.index-slots-slot.is }) c.in_ok-i.was in
    corner_there c.args.faces.now c.args.slots.now c.args.slot it.edge.a it.edge.b c.in_ok-i.i c.index-faces-i.result c.requires.fits up
    (record { inside = face_in _ _ _ _ _ _ c.requires.fits up; is = sym c.index-faces-i.is })

pub bounds-faces-j : goal.bounds-faces-j
bounds-faces-j c =
    let it = c.index-slots-slot.result in
    face_in _ c.args.slots.now c.args.slot it.edge.b it.edge.a c.in_ok-j.j c.requires.fits
    (HasLeft-down _ _ _ it (record { inside = c.requires.in_slots; is = sym c.index-slots-slot.is }) c.in_ok-j.was)

pub seen_from-requires-2 : goal.seen_from-requires-2
seen_from-requires-2 c =
    let it = c.index-slots-slot.result in
    let down = HasLeft-down c.args.slots.now c.args.slot c.in_ok-j.j it (record { inside = c.requires.in_slots; is = sym c.index-slots-slot.is }) c.in_ok-j.was in
    corner_there c.args.faces.now c.args.slots.now c.args.slot it.edge.b it.edge.a c.in_ok-j.j c.index-faces-j.result c.requires.fits down
    (record { inside = face_in _ _ _ _ _ _ c.requires.fits down; is = sym c.index-faces-j.is })

pub returns : goal.returns
returns c =
    let it = c.index-slots-slot.result in
    let here : IsAt c.args.slots.now c.args.slot it = record { inside = c.requires.in_slots; is = sym c.index-slots-slot.is } in
    let up = HasLeft-up c.args.slots.now c.args.slot c.in_ok-i.i it here c.in_ok-i.was in
    let down = HasLeft-down c.args.slots.now c.args.slot c.in_ok-j.j it here c.in_ok-j.was in
    IsAcross-seen c.args.faces.now c.args.slots.now c.args.slot it.edge.a it.edge.b c.in_ok-i.i c.in_ok-j.j
    c.index-faces-i.result c.index-faces-j.result c.seen_from.result c.seen_from-2.result c.requires.fits it.edge.ascending up down
    (record { inside = face_in _ _ _ _ _ _ c.requires.fits up; is = sym c.index-faces-i.is })
    (record { inside = face_in _ _ _ _ _ _ c.requires.fits down; is = sym c.index-faces-j.is })
    c.seen_from.ensures.sides c.seen_from-2.ensures.sides c.seen_from.ensures.from c.seen_from-2.ensures.from
