use Rattle.std.proofs.Common.{◌≡◌, slice_index, arith, ◌∙◌}
use Rattle.std.proofs.lemmas.List.{get_or_default}
use Rattle.empty_triangles.proofs.Lists.{HasEdge-within, with_next_fan, with_all_fans, AreTrianglesWith-fan}
use Rattle.empty_triangles.proofs.row.fill_triangles.Goals as goal

pub fill_thirds-requires-clause-b_in : goal.fill_thirds-requires-clause-b_in
fill_thirds-requires-clause-b_in c =
    let row = c.args.corner.now.row.items in
    let b : c.index-b.result.now ≡ slice_index row c.loop-i.i = c.index-b.ensures ∙ get_or_default row c.loop-i.i _ 0 (omega arith) in
    let n = c.requires.corner.neighbors.each c.loop-i.i 0 (omega arith) in
    rw b (HasEdge-within _ _ _ _ c.requires.within n.0 n.1)

pub loop-i-preserved : goal.loop-i-preserved
loop-i-preserved c =
    let row = c.args.corner.now.row.items in
    let r = c.requires.corner.neighbors in
    let b : c.index-b.result.now ≡ slice_index row c.loop-i.i = c.index-b.ensures ∙ get_or_default row c.loop-i.i _ 0 (omega arith) in
    let n = r.each c.loop-i.i 0 (omega arith) in
    let f = c.in_ok-push_fan.ensures in
    rw f.is
    (with_next_fan _ _ c.args.corner.now.a c.loop-i.i row _ _ r (omega arith) c.loop-i.invariant
    (AreTrianglesWith-fan _ _ c.args.corner.now.a (slice_index row c.loop-i.i) _ _ n.0 (HasEdge-within _ _ _ _ c.requires.within n.0 n.1) n.1
    (rw b at c.in_ok-fill_thirds.ensures.are)
    c.in_ok-fill_thirds.ensures.ascending
    (rw (b, c.deref.ensures.value) at f.each)))

pub returns : goal.returns
returns c = with_all_fans _ _ c.args.corner.now.a c.loop-i.i _ _ c.requires.corner.neighbors (omega arith) (omega arith) c.loop-i.invariant
