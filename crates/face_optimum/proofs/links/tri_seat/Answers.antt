-- The links along the three sides, and the places that they go round.
use Rattle.std.proofs.Common.{sym, subst}
use Rattle.exact_predicates.specs.declared.tri.Tri.{Tri}
use Rattle.face_optimum.specs.SeatTables.{IsTriLinked}
use Rattle.face_optimum.proofs.TriLinks.{none_linked, tri_only}
use Rattle.face_optimum.proofs.links.tri_seat.Goals as goal

pub returns-in_err-y-clause-only : goal.returns-in_err-y-clause-only
returns-in_err-y-clause-only c = λ s linked.
    let tri = c.tri-tri.result in
    let h = subst (λ (t : Tri). IsTriLinked c.args.net.now c.args.rings.now c.args.off.now t s) (sym c.tri-tri.ensures.value) linked in
    absurd (none_linked c.args.net.now c.args.rings.now c.args.off.now tri tri.b tri.c h.bc c.in_err-y.ensures.only h.bc_is)

pub returns-in_err-z-clause-only : goal.returns-in_err-z-clause-only
returns-in_err-z-clause-only c = λ s linked.
    let tri = c.tri-tri.result in
    let h = subst (λ (t : Tri). IsTriLinked c.args.net.now c.args.rings.now c.args.off.now t s) (sym c.tri-tri.ensures.value) linked in
    absurd (none_linked c.args.net.now c.args.rings.now c.args.off.now tri tri.c tri.a h.ca c.in_err-z.ensures.only h.ca_is)

pub returns-clause-only : goal.returns-clause-only
returns-clause-only c = λ s linked.
    let tri = c.tri-tri.result in
    let h = subst (λ (t : Tri). IsTriLinked c.args.net.now c.args.rings.now c.args.off.now t s) (sym c.tri-tri.ensures.value) linked in
    tri_only c.args.net.now c.args.rings.now c.args.off.now tri c.in_ok-x.x c.in_ok-y.y c.in_ok-z.z c.round.result c.in_ok-x.ensures.only c.in_ok-y.ensures.only c.in_ok-z.ensures.only c.round.ensures.only s h
