-- The test is that of the slot's quadrilateral.
use Rattle.std.proofs.Common.{arith}
use Rattle.flip_finish.proofs.Quads.{HasQuad-across, within_quad}
use Rattle.flip_finish.proofs.Testing.{by_crossing, not_shorter}
use Rattle.flip_finish.proofs.mesh.Mesh.shortens.Goals as goal

pub at-u-requires : goal.at-u-requires
at-u-requires c =
    let x = rw c.deref.ensures.value at c.in-Some.ensures in
    let within = rw (← c.self.view_is) at c.requires.within in
    (within_quad _ _ _ _ _ _ _ within (HasQuad-across _ _ _ _ c.self.invariant x)).0

pub at-v-requires : goal.at-v-requires
at-v-requires c =
    let x = rw c.deref.ensures.value at c.in-Some.ensures in
    let within = rw (← c.self.view_is) at c.requires.within in
    (within_quad _ _ _ _ _ _ _ within (HasQuad-across _ _ _ _ c.self.invariant x)).1

pub at-a-requires : goal.at-a-requires
at-a-requires c =
    let x = rw c.deref.ensures.value at c.in-Some.ensures in
    let within = rw (← c.self.view_is) at c.requires.within in
    (within_quad _ _ _ _ _ _ _ within (HasQuad-across _ _ _ _ c.self.invariant x)).2

pub at-b-requires : goal.at-b-requires
at-b-requires c =
    let x = rw c.deref.ensures.value at c.in-Some.ensures in
    let within = rw (← c.self.view_is) at c.requires.within in
    (within_quad _ _ _ _ _ _ _ within (HasQuad-across _ _ _ _ c.self.invariant x)).3

pub returns-then-d2 : goal.returns-then-d2
returns-then-d2 c =
    let x = rw c.deref.ensures.value at c.in-Some.ensures in
    rw (← c.self.view_is)
    (by_crossing c.args.points.now.points _ _ c.args.slot c.in-Some.field-0 _ _ _ _ c.d2.result c.d2-2.result c.crosses.result c.self.invariant x
    (record { u = c.at-u.ensures.value; v = c.at-v.ensures.value; a = c.at-a.ensures.value; b = c.at-b.ensures.value })
    c.d2.ensures.value c.d2-2.ensures.value (omega arith) c.crosses.ensures)

pub returns-else-d2 : goal.returns-else-d2
returns-else-d2 c =
    let x = rw c.deref.ensures.value at c.in-Some.ensures in
    rw (← c.self.view_is)
    (not_shorter c.args.points.now.points _ _ c.args.slot c.in-Some.field-0 _ _ _ _ c.d2.result c.d2-2.result c.self.invariant x
    (record { u = c.at-u.ensures.value; v = c.at-v.ensures.value; a = c.at-a.ensures.value; b = c.at-b.ensures.value })
    c.d2.ensures.value c.d2-2.ensures.value (omega arith))
