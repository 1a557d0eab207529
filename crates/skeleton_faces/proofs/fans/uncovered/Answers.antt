-- Edge by edge along the order.
use Rattle.std.proofs.Common.{◌≡◌, ◌<◌, ℕ, List, false, max, not, length, replicate, slice_index, refl, sym, ap, ◌∙◌, subst, rules, arith}
use Rattle.std.proofs.lemmas.List.{get_or_default}
use Rattle.skeleton_faces.specs.Reaches.{ArePlaces, AreReaches}
use Rattle.skeleton_faces.specs.Turning.{AreFannedOut}
use Rattle.skeleton_faces.proofs.Passing.{ArePlaces-fanned, IsPassed, passed_all, passed_more, passed_none, test_covers}
use Rattle.skeleton_faces.proofs.fans.uncovered.Goals as goal

pub of-requires-clause-places : goal.of-requires-clause-places
of-requires-clause-places c =
    let placed = ArePlaces-fanned c.args.net.now c.args.flags.now c.in_ok-order.order.items c.in_ok-places.places.items c.requires.one_each c.in_ok-order.ensures.fanned_out
    (c.in_ok-places.ensures.one_each ∙ c.edges.ensures.value) (rw c.deref.ensures.value at c.in_ok-places.ensures.inside) (rw c.deref.ensures.value at c.in_ok-places.ensures.there) in
    rw (c.deref-2.ensures.value, c.deref-3.ensures.value) placed

pub loop-place-init : goal.loop-place-init
loop-place-init c =
    let is : c.in_ok-uncovered.uncovered.items ≡ replicate c.edges-2.result false = search rules in
    passed_none c.args.net.now c.args.flags.now c.deref-e-items.result.now c.in_ok-reaches.reaches c.in_ok-uncovered.uncovered.items (is ∙ ap (λ (k : ℕ). replicate k false) c.edges-2.ensures.value)

pub loop-place-preserved : goal.loop-place-preserved
loop-place-preserved c =
    let n = c.args.net.now in
    let flags = c.args.flags.now in
    let order = c.deref-e-items.result.now in
    let places = c.in_ok-places.places.items in
    let r = c.in_ok-reaches.reaches in
    let order_is = c.deref-e-items.ensures.value in
    let place = c.loop-place.place in
    let fanned : AreFannedOut n.points n.edges flags order = subst (AreFannedOut n.points n.edges flags) (sym order_is) c.in_ok-order.ensures.fanned_out in
    let placed : ArePlaces flags order places = subst (λ (xs : List ℕ). ArePlaces flags xs places) (sym order_is)
    (ArePlaces-fanned n flags c.in_ok-order.order.items places c.requires.one_each c.in_ok-order.ensures.fanned_out
    (c.in_ok-places.ensures.one_each ∙ c.edges.ensures.value) (rw c.deref.ensures.value at c.in_ok-places.ensures.inside) (rw c.deref.ensures.value at c.in_ok-places.ensures.there)) in
    let reached : AreReaches n flags places (length order) (length n.tris) r = subst (λ (xs : List ℕ). AreReaches n flags places (length xs) (length n.tris) r) (sym order_is)
    (rw (c.deref-2.ensures.value, c.deref-3.ensures.value) at c.in_ok-reaches.ensures) in
    let place_in : place < length order = c.loop-place-test.true in
    let here = fanned.each place 0 place_in in
    let test = rw (c.edge-from.ensures.value, reached.spans_each) at c.cover.ensures in
    let decides = test_covers n flags order places r c.in_ok-order.ensures.network c.requires.one_each fanned placed reached place c.loop-place.far c.loop-place.uncovered.items c.cover.result place_in c.loop-place.invariant test in
    let entry : c.index.result.now ≡ slice_index r.spans.items place = c.index.ensures ∙ get_or_default r.spans.items place c.index.result.now 0 (omega (arith, reached.spans_each)) in
    passed_more n flags order r place c.loop-place.far c.max-far.result c.loop-place.uncovered.items _ (not c.cover.result) c.loop-place.invariant here.0 here.1 decides
    (c.max-far.ensures ∙ ap (λ (x : ℕ). max c.loop-place.far x) entry) refl

pub returns-clause-uncovered : goal.returns-clause-uncovered
returns-clause-uncovered c = λ e e_in.
    let n = c.args.net.now in
    let flags = c.args.flags.now in
    let order = c.deref-e-items.result.now in
    let fanned : AreFannedOut n.points n.edges flags order = subst (AreFannedOut n.points n.edges flags) (sym c.deref-e-items.ensures.value) c.in_ok-order.ensures.fanned_out in
    let k_is : c.loop-place.place ≡ length order = omega (arith, c.loop-place-test.false, c.loop-place.auto.place-end) in
    let Passed : ℕ → Type 0 = λ k. IsPassed n flags order c.in_ok-reaches.reaches k c.loop-place.far c.loop-place.uncovered.items in
    passed_all n flags order c.in_ok-reaches.reaches c.loop-place.far c.loop-place.uncovered.items fanned (subst Passed k_is c.loop-place.invariant) e
