-- Each face so far, or one that has none.
use Rattle.std.proofs.Common.{◌≡◌, ◌<◌, ◌-◌, ℕ, length, slice_index, refl, sym, ◌∙◌, ap, subst, arith, below_more}
use Rattle.std.proofs.lemmas.Bool.{false≢true}
use Rattle.exact_predicates.specs.Candidates.{HasEdge}
use Rattle.face_optimum.specs.declared.seat.EdgeSeat.{EdgeSeat}
use Rattle.face_optimum.specs.Places.{face_at}
use Rattle.face_optimum.specs.SeatTables.{HasSeatBetween}
use Rattle.face_optimum.proofs.RingPlaces.{next_last}
use Rattle.face_optimum.proofs.between.have_roots_tris.Goals as goal

abbrev root_seat : ℕ → ℕ → EdgeSeat
root_seat f k = record { face = f; first = 0; last = k - 1 }

pub has_tri_between-requires-clause-first_in : goal.has_tri_between-requires-clause-first_in
has_tri_between-requires-clause-first_in c = c.requires.some c.loop-face.face _ (omega (arith, c.loop-face-test.true, c.len-face-end.ensures))

pub has_tri_between-requires-clause-last_in : goal.has_tri_between-requires-clause-last_in
has_tri_between-requires-clause-last_in c =
    let f_in : c.loop-face.face < length c.args.rings.now = omega (arith, c.loop-face-test.true, c.len-face-end.ensures) in
    let some : 0 < length (face_at c.args.rings.now c.loop-face.face) = c.requires.some c.loop-face.face _ f_in in
    omega (arith, ap length c.ring.ensures.value)

pub has_tri_between-requires-clause-joined : goal.has_tri_between-requires-clause-joined
has_tri_between-requires-clause-joined c =
    let f = c.loop-face.face in
    let ring = face_at c.args.rings.now f in
    let f_in : f < length c.args.rings.now = omega (arith, c.loop-face-test.true, c.len-face-end.ensures) in
    let some : 0 < length ring = c.requires.some f _ f_in in
    let same : length c.ring.result.now ≡ length ring = ap length c.ring.ensures.value in
    let last_in : length ring - 1 < length ring = omega arith in
    let joined = c.requires.edges (slice_index ring (length ring - 1)) (slice_index ring 0) (record { face = f; place = length ring - 1 })
    (record { face_in = f_in; place_in = last_in; from = refl; to = next_last ring (length ring - 1) (omega arith) }) in
    subst (λ (k : ℕ). HasEdge c.args.net.now.edges (slice_index ring (k - 1)) (slice_index ring 0)) (sym same) joined

pub returns-then-not-has_tri_between : goal.returns-then-not-has_tri_between
returns-then-not-has_tri_between c =
    let f = c.loop-face.face in
    let same : length c.ring.result.now ≡ length (face_at c.args.rings.now f) = ap length c.ring.ensures.value in (
      λ h. absurd (false≢true h),
      λ every. absurd (false≢true (sym c.if-not-has_tri_between.true ∙ c.has_tri_between.ensures.1
          (subst (λ (k : ℕ). HasSeatBetween c.args.net.now c.args.flags.now c.args.tris.now (root_seat f k)) (sym same) (every f (omega (arith, c.loop-face-test.true, c.len-face-end.ensures)))))),
    )

pub loop-face-preserved : goal.loop-face-preserved
loop-face-preserved c =
    let f = c.loop-face.face in
    let same : length c.ring.result.now ≡ length (face_at c.args.rings.now f) = ap length c.ring.ensures.value in
    below_more (λ g. HasSeatBetween c.args.net.now c.args.flags.now c.args.tris.now (root_seat g (length (face_at c.args.rings.now g)))) f c.loop-face.invariant
    (subst (λ (k : ℕ). HasSeatBetween c.args.net.now c.args.flags.now c.args.tris.now (root_seat f k)) same (c.has_tri_between.ensures.0 c.if-not-has_tri_between.false))

pub returns : goal.returns
returns c = (λ _ f f_in. c.loop-face.invariant f (omega (arith, f_in, c.loop-face-test.false, c.len-face-end.ensures)), λ _. refl)
