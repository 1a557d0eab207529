use Rattle.std.proofs.Common.{◌≡◌, ◌<◌, ◌≤◌, length, get_or, filter, arith, ap, sym}
use Rattle.std.proofs.lemmas.List.{take_all, append-nil}
use Rattle.exact_predicates.specs.Hull.{ring_pairs}
use Rattle.exact_predicates.specs.Triangulation.{is_inner, sides}
use Rattle.exact_predicates.proofs.SidesCounted.{length-edges}
use Rattle.length_enclosure.proofs.Edges.{IsEnclosure-triangle, IsEnclosure-all, IsAtLeast-ends, IsAtMost-ends, ends_ordered, length-edges_none, length-edges_more, length-inner_sides}
use Rattle.length_enclosure.proofs.Peaks.{IsPeak-hull}
use Rattle.length_enclosure.proofs.total.enclosure.Goals as goal

pub with_sides-so_far-requires-clause-peak : goal.with_sides-so_far-requires-clause-peak
with_sides-so_far-requires-clause-peak c =
    let top = c.peak-top.ensures in
    IsPeak-hull c.args.points.now.points c.as_slice-rim.result.now c.peak-top.result c.len.ensures.valid (rw c.as_slice-rim.ensures.is c.requires.hull)
    top.within top.rises top.ends

pub loop-tri-init : goal.loop-tri-init
loop-tri-init c =
    let size = length-edges_none c.args.hull.now c.args.tris.now in
    let rim = ap length c.as_slice-rim.ensures.is in
    record {
      ends = rw (append-nil (ring_pairs c.args.hull.now)) (rw c.as_slice-rim.ensures.is at c.around-so_far.ensures.ends);
      bound = omega (arith, size, rim, c.around-so_far.ensures.bound);
      few = omega (arith, size);
    }

pub loop-tri-preserved : goal.loop-tri-preserved
loop-tri-preserved c =
    let listed = c.as_slice-tri-items.ensures.is in
    let at_i : get_or c.args.tris.now c.loop-tri.tri-index c.tri-item.result ≡ c.tri-item.result = rw listed at (sym c.tri-item.is) in
    let i_in : c.loop-tri.tri-index < length c.args.tris.now = omega (arith, c.loop-tri-test.true, ap length listed) in
    record {
      ends = IsEnclosure-triangle c.args.points.now.points c.args.hull.now c.args.tris.now c.loop-tri.tri-index c.tri-item.result _ _ i_in at_i
          c.loop-tri.invariant.ends (rw c.as_slice-rim.ensures.is at c.with_sides-so_far.ensures.longer);
      bound = omega (arith, length-edges_more c.args.hull.now c.args.tris.now c.loop-tri.tri-index c.tri-item.result i_in at_i, ap (λ h. length (filter (is_inner h) (sides c.tri-item.result))) c.as_slice-rim.ensures.is);
      few = omega (arith, length-edges_more c.args.hull.now c.args.tris.now c.loop-tri.tri-index c.tri-item.result i_in at_i, length-inner_sides c.args.hull.now c.tri-item.result);
    }

pub returns-clause-ordered : goal.returns-clause-ordered
returns-clause-ordered c =
    let i_end : length c.args.tris.now ≤ c.loop-tri.tri-index = omega (arith, c.loop-tri-test.false, ap length c.as_slice-tri-items.ensures.is) in
    ends_ordered c.args.points.now.points _ c.loop-tri.so_far (IsEnclosure-all _ _ c.args.tris.now c.loop-tri.tri-index _ i_end c.loop-tri.invariant.ends)

pub returns-clause-of_triangulation : goal.returns-clause-of_triangulation
returns-clause-of_triangulation c = λ t.
    let i_end : length c.args.tris.now ≤ c.loop-tri.tri-index = omega (arith, c.loop-tri-test.false, ap length c.as_slice-tri-items.ensures.is) in
    let bound = rw (take_all c.loop-tri.tri-index c.args.tris.now i_end) at c.loop-tri.invariant.bound in
    let count = length-edges c.args.points.now.points c.args.hull.now c.args.tris.now c.requires.hull t in
    let most = c.len.ensures.valid.not_more in
    omega (arith, bound, count, most)

pub returns-clause-at_least : goal.returns-clause-at_least
returns-clause-at_least c =
    let i_end : length c.args.tris.now ≤ c.loop-tri.tri-index = omega (arith, c.loop-tri-test.false, ap length c.as_slice-tri-items.ensures.is) in
    IsAtLeast-ends c.args.points.now.points _ c.loop-tri.so_far (IsEnclosure-all _ _ c.args.tris.now c.loop-tri.tri-index _ i_end c.loop-tri.invariant.ends)

pub returns-clause-at_most : goal.returns-clause-at_most
returns-clause-at_most c =
    let i_end : length c.args.tris.now ≤ c.loop-tri.tri-index = omega (arith, c.loop-tri-test.false, ap length c.as_slice-tri-items.ensures.is) in
    IsAtMost-ends c.args.points.now.points _ c.loop-tri.so_far (IsEnclosure-all _ _ c.args.tris.now c.loop-tri.tri-index _ i_end c.loop-tri.invariant.ends)
