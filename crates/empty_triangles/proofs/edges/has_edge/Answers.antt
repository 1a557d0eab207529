use Rattle.std.proofs.Common.{◌+◌, arith}
use Rattle.empty_triangles.proofs.Ends.{row_rises, AllPairs-part, HasEdge-found}
use Rattle.empty_triangles.proofs.edges.has_edge.Goals as goal

pub slice_bounds-place_of_edge-count : goal.slice_bounds-place_of_edge-count
slice_bounds-place_of_edge-count c =
    let a = c.min-a.result in
    row_rises c.args.edges.now a _ _ (c.requires.starts.each a (omega arith)) (c.requires.starts.each (a + 1) (omega arith))

pub slice_bounds-place_of_edge-start : goal.slice_bounds-place_of_edge-start
slice_bounds-place_of_edge-start c =
    let a = c.min-a.result in
    let q = c.requires.starts.each (a + 1) (omega arith) in
    let rises = row_rises c.args.edges.now a _ _ (c.requires.starts.each a (omega arith)) q in
    let within = q.within in
    omega arith

pub place_of_edge-requires-clause-ascending : goal.place_of_edge-requires-clause-ascending
place_of_edge-requires-clause-ascending c =
    let a = c.min-a.result in
    AllPairs-part c.args.edges.now a _ _ (c.requires.starts.each a (omega arith)) (c.requires.starts.each (a + 1) (omega arith)) c.requires.starts.ascending

pub returns : goal.returns
returns c =
    let a = c.min-a.result in
    rw c.is_some.ensures
    (HasEdge-found c.args.edges.now a _ _ (c.requires.starts.each a (omega arith)) (c.requires.starts.each (a + 1) (omega arith)) _ _ _ c.min-a.ensures c.place_of_edge.ensures.within c.place_of_edge.ensures.joins c.place_of_edge.ensures.none)
