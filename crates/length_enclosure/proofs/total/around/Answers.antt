use Rattle.std.proofs.Common.{◌+◌, slice_index, arith, ⊎_elim}
use Rattle.std.proofs.lemmas.List.{take_all}
use Rattle.exact_predicates.specs.Hull.{ring_pairs, IsHullPair}
use Rattle.exact_predicates.proofs.Rings.{length-ring, place_of_pair}
use Rattle.length_enclosure.proofs.Edges.{IsEnclosure-pair}
use Rattle.length_enclosure.proofs.total.around.Goals as goal

pub with_edge-so_far-requires-clause-v_in : goal.with_edge-so_far-requires-clause-v_in
with_edge-so_far-requires-clause-v_in c =
    let hull = c.args.hull.now in
    let u = slice_index hull c.loop-k.k in
    let v = c.next_on_hull.result in
    let pair : IsHullPair hull u v = (c.loop-k.k, c.next_on_hull.ensures.in_pairs, c.next_on_hull.ensures.pair (u, v)) in
    let (k, k_in, at, next) = place_of_pair hull u v pair in
    ⊎_elim
    (λ n. let after = c.requires.within (k + 1) 0 n.0 in omega (arith, after, n.1))
    (λ n. let first = c.requires.within 0 0 (omega arith) in omega (arith, first, n.1))
    next

pub loop-k-preserved : goal.loop-k-preserved
loop-k-preserved c = record {
  ends = IsEnclosure-pair c.args.points.now.points c.args.hull.now c.loop-k.k _ _ _ c.loop-k-test.true c.next_on_hull.ensures.pair c.loop-k.invariant.ends c.with_edge-so_far.ensures.longer;
  bound = omega arith;
}

pub returns-clause-ends : goal.returns-clause-ends
returns-clause-ends c =
    let all = take_all c.loop-k.k (ring_pairs c.args.hull.now) (omega (arith, length-ring c.args.hull.now)) in
    rw all at c.loop-k.invariant.ends
