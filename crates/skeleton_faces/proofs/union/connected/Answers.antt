-- Groups stay right edge by edge, and in the end tell whether all is joined.
use Rattle.std.proofs.Common.{◌≡◌, ℕ, ◌<◌, length, sym, ◌∙◌, ap, subst, arith}
use Rattle.std.proofs.lemmas.List.{get_or_default, with_items_is}
use Rattle.skeleton_faces.specs.Marks.{nth_edge}
use Rattle.skeleton_faces.proofs.Groups.{AreGrouped, AreGrouped-start, AreGrouped-next, AreGrouped-one}
use Rattle.skeleton_faces.proofs.union.connected.Goals as goal

pub loop-edge-init : goal.loop-edge-init
loop-edge-init c = AreGrouped-start _ c.args.skeleton.now c.loop-p.parents.items
    (omega (arith, c.loop-p.invariant.0, c.loop-p-test.false, c.loop-p.auto.p-end, c.len-p-end.ensures.value))
    (λ p p_in. c.loop-p.invariant.1 p (omega (arith, c.loop-p-test.false, c.loop-p.auto.p-end, c.len-p-end.ensures.value)))

pub loop-edge-preserved : goal.loop-edge-preserved
loop-edge-preserved c =
    let es = c.args.skeleton.now in
    let k = c.loop-edge.edge-index in
    let old = c.loop-edge.parents.items in
    let k_in : k < length es = omega (arith, c.loop-edge-test.true, ap length c.as_slice-edge-items.ensures.is) in
    let is : nth_edge es k ≡ c.edge-item.result = get_or_default es k _ c.edge-item.result k_in ∙ sym (rw c.as_slice-edge-items.ensures.is at c.edge-item.is) in
    let parents_are = with_items_is c.loop-edge.parents c.join.new.parents (c.join.auto.parents ∙ c.deref_mut.ensures.len) in
    let joined = c.join.ensures.joined es in
    let named = c.join.ensures.named in
    rw parents_are
    (AreGrouped-next _ es k old c.join.new.parents c.loop-edge.invariant k_in (c.join.auto.parents ∙ ap length c.deref_mut.ensures.value) c.join.ensures.lesser
    (rw (is, ← c.deref_mut.ensures.value) joined)
    (rw (is, ← c.deref_mut.ensures.value) named))

pub returns : goal.returns
returns c =
    let es = c.args.skeleton.now in
    let ps = c.args.points.now.points in
    let enough = c.len-p-end.ensures.valid.enough in
    let k_is : c.loop-edge.edge-index ≡ length es = omega (arith, c.loop-edge-test.false, c.loop-edge.auto.edge-index-end, ap length c.as_slice-edge-items.ensures.is) in
    let At : ℕ → Type 0 = λ k. AreGrouped (length ps) es k c.loop-edge.parents.items in
    let one = AreGrouped-one ps es c.loop-edge.parents.items (omega arith) (subst At k_is c.loop-edge.invariant) in
    let test = rw c.deref.ensures.value at c.is_one_group.ensures in
    (λ yes. one.0 (test.0 yes), λ all. test.1 (one.1 all))
