-- After the last place each number of the order has its place.
use Rattle.std.proofs.Common.{◌≡◌, ℕ, length, slice_index, ◌∙◌, ap, subst, arith}
use Rattle.std.proofs.lemmas.List.{get_or_default}
use Rattle.skeleton_faces.proofs.fans.places.Goals as goal

pub returns-clause-inside : goal.returns-clause-inside
returns-clause-inside c = λ e (k, k_in, at_k).
    let is : slice_index c.args.order.now k ≡ e = get_or_default c.args.order.now k 0 e k_in ∙ at_k in
    let n_is : c.loop-place.place ≡ length c.args.order.now = omega (arith, c.loop-place-test.false, c.loop-place.auto.place-end) in
    let low = c.loop-place.invariant.inside k (omega arith) in
    let same = ap (slice_index c.loop-place.places.items) is in
    omega arith

pub returns-clause-there : goal.returns-clause-there
returns-clause-there c = λ e (k, k_in, at_k).
    let is : slice_index c.args.order.now k ≡ e = get_or_default c.args.order.now k 0 e k_in ∙ at_k in
    let n_is : c.loop-place.place ≡ length c.args.order.now = omega (arith, c.loop-place-test.false, c.loop-place.auto.place-end) in
    subst (λ (x : ℕ). slice_index c.args.order.now (slice_index c.loop-place.places.items x) ≡ x) is (c.loop-place.invariant.there k (omega arith))
