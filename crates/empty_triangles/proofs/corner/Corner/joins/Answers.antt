use Rattle.std.proofs.Common.{◌≡◌, false, slice_index, arith, sym, ◌∙◌}
use Rattle.std.proofs.lemmas.List.{get_or_default}
use Rattle.empty_triangles.proofs.Corners.{IsRow-joins}
use Rattle.empty_triangles.proofs.corner.Corner.joins.Goals as goal

pub returns-then-index : goal.returns-then-index
returns-then-index c =
    let corner = c.args.self.now in
    let m = c.requires.marked in
    let k_in = c.requires.k_in in
    let marked = sym (c.index.ensures ∙ get_or_default corner.marks.items c.args.k _ false (omega (arith, m.count, k_in))) ∙ c.if-index.true in
    let head : c.index-then-index.result.now ≡ slice_index corner.heads.items c.args.k = c.index-then-index.ensures ∙ get_or_default corner.heads.items c.args.k _ 0 k_in in
    IsRow-joins _ _ _ _ _ _ c.requires.row c.requires.later ((m.each c.args.k k_in).0 marked) (rw head at c.has_edge.ensures)
