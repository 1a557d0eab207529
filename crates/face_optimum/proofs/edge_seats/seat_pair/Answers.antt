-- The edge at a pair of places, if there is one.
use Rattle.std.proofs.Common.{◌<◌, List, ℕ, All, length, refl, sym, ◌∙◌, subst}
use Rattle.std.proofs.lemmas.Bool.{OnFalse_at, OnTrue_at, OnTrue_from, OnFalse_from, false≢true}
use Rattle.exact_predicates.specs.declared.point.Point.{Point}
use Rattle.exact_predicates.specs.Plane.{IsInRange}
use Rattle.face_optimum.proofs.EdgeSeating.{seated_apart, seated_hit, seated_on, seated_unseen, sits_there, two_seats}
use Rattle.face_optimum.proofs.edge_seats.seat_pair.Goals as goal

pub see_each_other-requires-clause-in_range : goal.see_each_other-requires-clause-in_range
see_each_other-requires-clause-in_range c = subst (All IsInRange) (sym c.as_slice.ensures.is) c.as_slice.ensures.valid.in_range

pub see_each_other-requires-clause-ring_in : goal.see_each_other-requires-clause-ring_in
see_each_other-requires-clause-ring_in c =
    subst (λ (ps : List Point). All (λ p. p < length ps) c.ring-ring.result.now) (sym c.as_slice.ensures.is)
    (subst (λ (r : List ℕ). All (λ p. p < length c.args.points.now.points) r) (sym c.ring-ring.ensures.value) (c.requires.points_in c.args.seat.face _ c.requires.face_in))

pub returns-then-not-see_each_other-clause-seated : goal.returns-then-not-see_each_other-clause-seated
returns-then-not-see_each_other-clause-seated c =
    seated_unseen c.args.net.now c.args.rings.now c.args.off.now c.as_slice.result.now (c.requires.same_points ∙ sym c.as_slice.ensures.is) c.ring-ring.result.now c.args.seat c.ring-ring.ensures.value c.args.seats.now c.requires.seats_are
    (λ see. false≢true (sym c.if-not-see_each_other.true ∙ c.see_each_other.ensures.1 see))

pub returns-in_default-clause-seated : goal.returns-in_default-clause-seated
returns-in_default-clause-seated c =
    seated_apart c.args.net.now c.args.rings.now c.args.off.now c.as_slice.result.now (c.requires.same_points ∙ sym c.as_slice.ensures.is) c.ring-ring.result.now c.args.seat c.ring-ring.ensures.value c.args.seats.now c.requires.seats_are
    (c.in_default.ensures.none.0 refl)

pub returns-then-not-off-e-clause-seated : goal.returns-then-not-off-e-clause-seated
returns-then-not-off-e-clause-seated c =
    seated_on c.args.net.now c.args.rings.now c.args.off.now c.as_slice.result.now (c.requires.same_points ∙ sym c.as_slice.ensures.is) c.ring-ring.result.now c.args.seat c.ring-ring.ensures.value
    c.in-Some.e c.requires.ascending c.in-Some.ensures.some c.args.seats.now c.requires.seats_are c.if-not-off-e.true

pub returns-clause-seated : goal.returns-clause-seated
returns-clause-seated c =
    let n = c.args.net.now in
    let at = sits_there n c.args.rings.now c.args.off.now c.as_slice.result.now (c.requires.same_points ∙ sym c.as_slice.ensures.is) c.ring-ring.result.now c.args.seat c.ring-ring.ensures.value c.in-Some.e c.requires.ascending c.in-Some.ensures.some
    c.requires.face_in c.requires.below c.requires.last_in (c.see_each_other.ensures.0 c.if-not-see_each_other.false) in
    OnTrue_from c.keep_seat.result _ (λ fresh.
    let new = OnTrue_at fresh c.keep_seat.ensures.new in
    rw new (seated_hit n c.args.rings.now c.args.off.now c.args.seats.now c.in-Some.e c.args.seat c.requires.ascending c.requires.seats_are c.in-Some.ensures.some.0 at (OnTrue_at fresh c.keep_seat.ensures.kept)))

pub returns-clause-two : goal.returns-clause-two
returns-clause-two c =
    let n = c.args.net.now in
    let at = sits_there n c.args.rings.now c.args.off.now c.as_slice.result.now (c.requires.same_points ∙ sym c.as_slice.ensures.is) c.ring-ring.result.now c.args.seat c.ring-ring.ensures.value c.in-Some.e c.requires.ascending c.in-Some.ensures.some
    c.requires.face_in c.requires.below c.requires.last_in (c.see_each_other.ensures.0 c.if-not-see_each_other.false) in
    OnFalse_from c.keep_seat.result _ (λ taken.
    let (known, has, apart) = OnFalse_at taken c.keep_seat.ensures.other in
    two_seats n c.args.rings.now c.args.off.now c.args.seats.now c.in-Some.e c.args.seat known c.requires.seats_are (c.in-Some.ensures.some.0, c.if-not-off-e.false) at has apart)
