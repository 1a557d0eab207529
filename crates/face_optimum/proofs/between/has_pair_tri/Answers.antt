-- The seat of the edge, if it has one.
use Rattle.std.proofs.Common.{◌≡◌, None, Some, slice_index, refl, sym, ◌∙◌, subst, arith}
use Rattle.std.proofs.lemmas.Bool.{false≢true}
use Rattle.std.proofs.lemmas.List.Elements.{Contains-get_or}
use Rattle.exact_predicates.proofs.Equalities.{HasEdge-Contains, HasEdge-comm}
use Rattle.lmt_network.specs.Network.{edge_at}
use Rattle.face_optimum.specs.declared.seat.EdgeSeat.{EdgeSeat}
use Rattle.face_optimum.specs.Places.{face_at}
use Rattle.face_optimum.specs.SeatTables.{HasSeatBetween}
use Rattle.face_optimum.proofs.between.has_pair_tri.Goals as goal

some_only : (s t : EdgeSeat) → Some s ≡ Some t → s ≡ t
some_only s t h = cc

none_has : (s : EdgeSeat) → None ≡ Some s → ⊥
none_has s h = cc

pub has_tri_between-requires-clause-face_in : goal.has_tri_between-requires-clause-face_in
has_tri_between-requires-clause-face_in c = (c.requires.edges_are.seats_are.sound c.args.e c.in-Some.seat c.in-Some.is).0

pub has_tri_between-requires-clause-first_in : goal.has_tri_between-requires-clause-first_in
has_tri_between-requires-clause-first_in c =
    let at = (c.requires.edges_are.seats_are.sound c.args.e c.in-Some.seat c.in-Some.is).1 in
    let below = at.below in
    let last_in = at.last_in in
    omega arith

pub has_tri_between-requires-clause-last_in : goal.has_tri_between-requires-clause-last_in
has_tri_between-requires-clause-last_in c = (c.requires.edges_are.seats_are.sound c.args.e c.in-Some.seat c.in-Some.is).1.last_in

pub has_tri_between-requires-clause-joined : goal.has_tri_between-requires-clause-joined
has_tri_between-requires-clause-joined c =
    let n = c.args.net.now in
    let seat = c.in-Some.seat in
    let ring = face_at c.args.rings.now seat.face in
    let at = (c.requires.edges_are.seats_are.sound c.args.e seat c.in-Some.is).1 in
    HasEdge-comm n.edges (slice_index ring seat.first) (slice_index ring seat.last)
    (HasEdge-Contains n.edges (edge_at n c.args.e) (slice_index ring seat.first) (slice_index ring seat.last) at.ends
    (Contains-get_or n.edges c.args.e _ (omega (arith, c.requires.e_in, c.requires.off_each))))

pub returns-then-not-off-e : goal.returns-then-not-off-e
returns-then-not-off-e c = (λ _ s is_off has. absurd (false≢true (sym c.if-not-off-e.true ∙ is_off.1)), λ _. refl)

pub returns-in-Some : goal.returns-in-Some
returns-in-Some c = (
  λ found s is_off has. subst (HasSeatBetween c.args.net.now c.args.flags.now c.args.tris.now) (some_only c.in-Some.seat s (sym c.in-Some.is ∙ has)) (c.has_tri_between.ensures.0 found),
  λ every. c.has_tri_between.ensures.1 (every c.in-Some.seat (omega (arith, c.requires.e_in, c.requires.off_each), c.if-not-off-e.false) c.in-Some.is),
)

pub returns-in-None : goal.returns-in-None
returns-in-None c = (λ _ s is_off has. absurd (none_has s (sym c.in-None.is ∙ has)), λ _. refl)
