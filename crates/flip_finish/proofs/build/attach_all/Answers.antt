-- Both sides of one slot more are given it.
use Rattle.std.proofs.Common.{◌<◌, sym, arith}
use Rattle.flip_finish.specs.Face.{face_tris}
use Rattle.flip_finish.specs.Places.{IsAt}
use Rattle.flip_finish.proofs.Giving.{Fits-given, given_left, given_next, given_right, given_start, left_in}
use Rattle.flip_finish.proofs.Seeing.{HasLeft-down, HasLeft-up}
use Rattle.flip_finish.proofs.build.attach_all.Goals as goal

pub loop-p-init : goal.loop-p-init
loop-p-init c = given_start c.args.faces.now c.args.slots.now

pub attach-requires : goal.attach-requires
attach-requires c = λ t e.
    let s = c.index-slots-p.result in
    let here : IsAt c.args.slots.now c.loop-p.p s = record { inside = c.loop-p-test.true; is = sym c.index-slots-p.is } in
    left_in (face_tris c.args.faces.now) c.loop-p.faces c.args.slots.now c.loop-p.p s.edge.a s.edge.b t c.requires.slots c.loop-p.invariant.same
    (HasLeft-up c.args.slots.now c.loop-p.p t s here e)

pub attach-requires-in-loop-p : goal.attach-requires-in-loop-p
attach-requires-in-loop-p c = λ t e.
    let s = c.index-slots-p.result in
    let here : IsAt c.args.slots.now c.loop-p.p s = record { inside = c.loop-p-test.true; is = sym c.index-slots-p.is } in
    let left = given_left (face_tris c.args.faces.now) c.loop-p.faces c.attach.new.faces c.args.slots.now (λ p x. p < c.loop-p.p) c.loop-p.p s c.requires.slots c.loop-p.invariant here c.attach.ensures in
    left_in (face_tris c.args.faces.now) c.attach.new.faces c.args.slots.now c.loop-p.p s.edge.b s.edge.a t c.requires.slots left.same
    (HasLeft-down c.args.slots.now c.loop-p.p t s here e)

pub loop-p-preserved : goal.loop-p-preserved
loop-p-preserved c =
    let s = c.index-slots-p.result in
    let tris = face_tris c.args.faces.now in
    let slots = c.args.slots.now in
    let n = c.loop-p.p in
    let here : IsAt slots n s = record { inside = c.loop-p-test.true; is = sym c.index-slots-p.is } in
    let left = given_left tris c.loop-p.faces c.attach.new.faces slots (λ p x. p < n) n s c.requires.slots c.loop-p.invariant here c.attach.ensures in
    given_next tris c.attach-in-loop-p.new.faces slots n s here
    (given_right tris c.attach.new.faces c.attach-in-loop-p.new.faces slots _ n s c.requires.slots left here c.attach-in-loop-p.ensures)

pub returns-clause-fits : goal.returns-clause-fits
returns-clause-fits c =
    Fits-given (face_tris c.args.faces.now) c.loop-p.faces c.args.slots.now c.loop-p.p c.requires.slots (omega (arith, c.loop-p.auto.faces, c.requires.few)) c.loop-p-test.false c.loop-p.invariant

pub returns-clause-same : goal.returns-clause-same
returns-clause-same c = c.loop-p.invariant.same
