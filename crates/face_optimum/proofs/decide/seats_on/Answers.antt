-- What is found fills the faces, or they are not filled.
use Rattle.std.proofs.Common.{List, Bool, length, refl, sym, ◌∙◌, subst}
use Rattle.std.proofs.lemmas.Bool.{false≢true}
use Rattle.exact_predicates.specs.declared.point.Point.{Point}
use Rattle.lmt_network.specs.Flags.{live_edges}
use Rattle.face_optimum.specs.Decomposition.{AreFilled}
use Rattle.face_optimum.specs.SeatTables.{AreEdgeSeats, AreSidesOn, AreTriSeats, HasTriNowhere, LacksOneSeat}
use Rattle.face_optimum.proofs.Deciding.{filled, filled_roots, not_lacking, not_tri, pairs_back}
use Rattle.face_optimum.proofs.FaceFacts.{sides_on}
use Rattle.face_optimum.proofs.SkeletonFacts.{sides_known}
use Rattle.face_optimum.proofs.decide.seats_on.Goals as goal

pub returns-in_default-clause-none : goal.returns-in_default-clause-none
returns-in_default-clause-none c = λ none whole.
    let n = c.args.net.now in
    let live = live_edges n c.args.flags.now in
    not_lacking n c.args.flags.now c.requires.network c.requires.one_each c.args.skeleton.now c.args.rings c.args.off.items c.requires.off_is
    (subst (LacksOneSeat n c.args.rings) c.deref.ensures.value (c.in_ok-edges.ensures.none c.in_default.is))
    (subst (λ (ps : List Point). AreFilled ps live c.args.skeleton.now c.args.rings) (sym c.requires.same_points) whole).edges

pub tri_seats-requires-clause-in_edges : goal.tri_seats-requires-clause-in_edges
tri_seats-requires-clause-in_edges c =
    sides_known c.args.net.now c.args.flags.now c.requires.network c.requires.one_each c.args.skeleton.now c.requires.skeleton_in c.args.rings c.requires.on

pub tri_seats-requires-clause-on : goal.tri_seats-requires-clause-on
tri_seats-requires-clause-on c =
    subst (AreSidesOn c.args.net.now c.args.rings) (sym c.deref-2.ensures.value)
    (sides_on c.args.net.now c.args.flags.now c.args.off.items c.args.skeleton.now c.args.rings c.requires.on c.requires.off_is)

pub returns-in_default-2-clause-none : goal.returns-in_default-2-clause-none
returns-in_default-2-clause-none c = λ none whole.
    let n = c.args.net.now in
    let live = live_edges n c.args.flags.now in
    not_tri n c.args.flags.now c.requires.network c.requires.one_each c.args.skeleton.now c.args.rings c.args.off.items c.requires.off_is
    (subst (HasTriNowhere n c.args.flags.now c.args.rings) c.deref-2.ensures.value (c.in_ok-tris.ensures.none c.in_default-2.is))
    (subst (λ (ps : List Point). AreFilled ps live c.args.skeleton.now c.args.rings) (sym c.requires.same_points) whole).triangles

pub returns-then-not-have_pairs_tris-clause-none : goal.returns-then-not-have_pairs_tris-clause-none
returns-then-not-have_pairs_tris-clause-none c = λ none whole.
    let n = c.args.net.now in
    let flags = c.args.flags.now in
    let off = c.args.off.items in
    let e_are = subst (λ (o : List Bool). AreEdgeSeats n c.args.rings o c.in-Some.edges.items) c.deref.ensures.value (rw c.in-Some.is at c.in_ok-edges.ensures.some) in
    let t_are = subst (λ (o : List Bool). AreTriSeats n flags c.args.rings o (length n.tris) c.in-Some-2.tris.items) c.deref-2.ensures.value (rw c.in-Some-2.is at c.in_ok-tris.ensures.some) in
    let here = subst (λ (ps : List Point). AreFilled ps (live_edges n flags) c.args.skeleton.now c.args.rings) (sym c.requires.same_points) whole in
    let every = pairs_back n flags c.requires.network c.requires.one_each c.args.skeleton.now c.args.rings off c.requires.off_is c.in-Some-2.tris.items t_are c.in-Some.edges.items e_are here.pairs in
    absurd (false≢true (sym c.if-not-have_pairs_tris.true ∙ c.have_pairs_tris.ensures.1 (rw (c.deref-4.ensures.value, c.deref-5.ensures.value, c.deref-6.ensures.value) every)))

pub have_roots_tris-requires-clause-edges : goal.have_roots_tris-requires-clause-edges
have_roots_tris-requires-clause-edges c =
    sides_known c.args.net.now c.args.flags.now c.requires.network c.requires.one_each c.args.skeleton.now c.requires.skeleton_in c.args.rings c.requires.on

pub returns-then-not-have_roots_tris-clause-none : goal.returns-then-not-have_roots_tris-clause-none
returns-then-not-have_roots_tris-clause-none c = λ none whole.
    let n = c.args.net.now in
    let flags = c.args.flags.now in
    let off = c.args.off.items in
    let t_are = subst (λ (o : List Bool). AreTriSeats n flags c.args.rings o (length n.tris) c.in-Some-2.tris.items) c.deref-2.ensures.value (rw c.in-Some-2.is at c.in_ok-tris.ensures.some) in
    let here = subst (λ (ps : List Point). AreFilled ps (live_edges n flags) c.args.skeleton.now c.args.rings) (sym c.requires.same_points) whole in
    let every = filled_roots n flags c.requires.network c.requires.one_each c.args.skeleton.now c.args.rings off c.requires.off_is c.in-Some-2.tris.items t_are here in
    absurd (false≢true (sym c.if-not-have_roots_tris.true ∙ c.have_roots_tris.ensures.1 (rw c.deref-8.ensures.value every)))

pub returns-clause-some : goal.returns-clause-some
returns-clause-some c =
    let n = c.args.net.now in
    let flags = c.args.flags.now in
    let off = c.args.off.items in
    let e_are = subst (λ (o : List Bool). AreEdgeSeats n c.args.rings o c.in-Some.edges.items) c.deref.ensures.value (rw c.in-Some.is at c.in_ok-edges.ensures.some) in
    let t_are = subst (λ (o : List Bool). AreTriSeats n flags c.args.rings o (length n.tris) c.in-Some-2.tris.items) c.deref-2.ensures.value (rw c.in-Some-2.is at c.in_ok-tris.ensures.some) in
    let pairs = rw (c.deref-4.ensures.value, c.deref-5.ensures.value, c.deref-6.ensures.value) at (c.have_pairs_tris.ensures.0 c.if-not-have_pairs_tris.false) in
    let roots = rw c.deref-8.ensures.value at (c.have_roots_tris.ensures.0 c.if-not-have_roots_tris.false) in
    let whole = filled n flags c.requires.network c.requires.one_each c.args.skeleton.now c.args.rings off c.requires.off_is c.in-Some.edges.items c.in-Some-2.tris.items e_are t_are pairs roots in (
      record { rings = refl; off = c.requires.off_is; edges = e_are; tris = t_are },
      subst (λ (ps : List Point). AreFilled ps (live_edges n flags) c.args.skeleton.now c.args.rings) c.requires.same_points whole,
    )
