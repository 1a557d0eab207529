-- Back along the hull, place by place.
use Rattle.std.proofs.Common.{◌≡◌, ◌<◌, ◌+◌, length, slice_index, refl, sym, ◌∙◌, arith}
use Rattle.std.proofs.lemmas.Bool.{false≢true}
use Rattle.face_optimum.specs.Places.{next_point}
use Rattle.face_optimum.proofs.RingPlaces.{next_inside}
use Rattle.face_optimum.proofs.Rims.{back_more, goes_back_from, not_back, not_on_hull}
use Rattle.face_optimum.proofs.rim.goes_back.Goals as goal

pub returns-in_default : goal.returns-in_default
returns-in_default c = (
  λ h. absurd (false≢true h),
  λ back. absurd (not_on_hull c.args.hull.now c.args.cycle.now c.requires.some (c.in_default.ensures.none refl) back),
)

pub returns-then-next_point-hull : goal.returns-then-next_point-hull
returns-then-next_point-hull c = (
  λ h. absurd (false≢true h),
  λ back. absurd (not_back c.args.hull.now c.args.cycle.now c.loop-k.at c.place_before-at.result c.loop-k.k c.requires.distinct c.loop-k.invariant.0 c.loop-k-test.true c.place_before-at.ensures
      (c.loop-k.invariant.1 c.loop-k-test.true) (λ e. c.if-next_point-hull.true (c.next_point.ensures ∙ e)) back),
)

pub loop-k-preserved : goal.loop-k-preserved
loop-k-preserved c =
    let hull = c.args.hull.now in
    let cycle = c.args.cycle.now in
    let k = c.loop-k.k in
    let m = c.place_before-at.result in
    let next : next_point cycle k ≡ slice_index hull m = sym c.next_point.ensures ∙ c.if-next_point-hull.false in (
      c.place_before-at.ensures.0,
      λ (l : k + 1 < length cycle). sym next ∙ next_inside cycle k l,
      back_more hull cycle c.loop-k.at m k c.loop-k.invariant.0 c.place_before-at.ensures (c.loop-k.invariant.1 c.loop-k-test.true) next c.loop-k.invariant.2,
    )

pub returns : goal.returns
returns c = (
  λ _. goes_back_from c.args.hull.now c.args.cycle.now (λ k k_in. c.loop-k.invariant.2 k (omega arith)),
  λ _. refl,
)
