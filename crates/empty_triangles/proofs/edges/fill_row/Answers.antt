use Rattle.std.proofs.Common.{◌+◌, arith}
use Rattle.empty_triangles.proofs.Ends.{row_rises, IsRow-read}
use Rattle.empty_triangles.proofs.edges.fill_row.Goals as goal

pub returns : goal.returns
returns c =
    let a = c.args.a in
    let p = c.requires.starts.each a (omega arith) in
    let q = c.requires.starts.each (a + 1) (omega arith) in
    let rises = row_rises c.args.edges.now a _ _ p q in
    let h = c.loop-k.invariant in
    IsRow-read c.args.edges.now a _ _ p q _ c.requires.starts.ascending (omega (arith, h.0, c.loop-k.row.ok)) (λ k x d l. h.1 k x d (omega (arith, c.loop-k.row.ok)))
