-- Triangle by triangle.
use Rattle.std.proofs.Common.{◌≡◌, ◌+◌, ◌<◌, ℕ, length, replicate, slice_index, sym, ap, ◌∙◌, subst, arith}
use Rattle.skeleton_faces.specs.Reaches.{AreReaches}
use Rattle.skeleton_faces.proofs.Reached.{reaches_none}
use Rattle.skeleton_faces.proofs.reaches.Reaches.of.Goals as goal

pub loop-t-init : goal.loop-t-init
loop-t-init c =
    let made = c.in_ok-reaches.ensures in
    let points_are : c.len.result ≡ length c.args.net.now.points = c.len.ensures.value ∙ ap length (sym c.requires.same_points) in
    reaches_none c.args.net.now c.args.flags.now c.args.places.now (length c.args.order.now) c.in_ok-reaches.reaches made.spans
    (made.heads ∙ ap (λ (k : ℕ). replicate k 0) points_are) (made.tails ∙ ap (λ (k : ℕ). replicate k 0) points_are)

pub take-requires-clause-so_far : goal.take-requires-clause-so_far
take-requires-clause-so_far c =
    subst (λ (k : ℕ). AreReaches c.args.net.now c.args.flags.now c.args.places.now k c.loop-t.t c.loop-t.reaches) (sym c.loop-t.invariant.spans_each) c.loop-t.invariant

pub take-requires-clause-places_in : goal.take-requires-clause-places_in
take-requires-clause-places_in c = λ e up. subst (λ (k : ℕ). slice_index c.args.places.now e < k) (sym c.loop-t.invariant.spans_each) (c.requires.places.inside e up)

pub loop-t-preserved : goal.loop-t-preserved
loop-t-preserved c = subst (λ (k : ℕ). AreReaches c.args.net.now c.args.flags.now c.args.places.now k (c.loop-t.t + 1) c.take.new.self) c.loop-t.invariant.spans_each c.take.ensures

pub returns : goal.returns
returns c =
    let t_is : c.loop-t.t ≡ length c.args.net.now.tris = omega (arith, c.loop-t-test.false, c.loop-t.auto.t-end, c.tris-t-end.ensures.value) in
    subst (λ (t : ℕ). AreReaches c.args.net.now c.args.flags.now c.args.places.now (length c.args.order.now) t c.loop-t.reaches) t_is c.loop-t.invariant
