use Rattle.std.proofs.Common.{◌≡◌, ◌<◌, length, slice_index, ◌∙◌, arith}
use Rattle.std.proofs.lemmas.List.{get_or_default}
use Rattle.diamond_edges.proofs.Marks.{AreMarked-more, MarksSeen-all, Sees-later, later_in, iff_through}
use Rattle.diamond_edges.proofs.seen.seen_from.Goals as goal

pub loop-k-preserved : goal.loop-k-preserved
loop-k-preserved c =
    let order = c.in_ok-order.order.items in
    let here : c.index.result.now ≡ slice_index order c.loop-k.k = c.index.ensures ∙ get_or_default _ c.loop-k.k _ 0 (omega arith) in
    let k_in : c.loop-k.k < length order = omega arith in
    let n = c.in_ok-order.ensures.ordered.each c.loop-k.k 0 k_in in
    let moved = rw c.deref.ensures.value at c.in_ok-order.ensures.same in
    let later = rw c.len-count.ensures.value at c.in_ok-later.ensures in
    rw here
    (AreMarked-more _ _ _ c.len-count.ensures.valid c.requires c.in_ok-order.ensures.ordered _ c.loop-k.k _ c.loop-k.invariant k_in
    (iff_through _ _ _ (rw c.deref-in-loop-k.ensures.value at c.is_first_on_ray.ensures)
    (Sees-later _ _ _ _ c.len-count.ensures.valid n.0 n.1 c.in_ok-order.ensures.ordered (later_in _ _ _ _ later moved))))

pub returns : goal.returns
returns c = MarksSeen-all _ _ _ c.len-count.ensures.valid c.requires c.in_ok-order.ensures.ordered _ c.loop-k.k (omega arith) (later_in _ _ _ _ (rw c.len-count.ensures.value at c.in_ok-later.ensures) (rw c.deref.ensures.value at c.in_ok-order.ensures.same)) c.loop-k.invariant
