use Rattle.std.proofs.Common.{codes, ◌++◌}
use Rattle.cert_text.specs.Texts.{edge_fields, tri_fields, live_fields, block}
use Rattle.cert_text.proofs.Growing.{grows_then}
use Rattle.cert_text.proofs.writer.write_edges.Goals as goal

pub returns : goal.returns
returns c =
    let r = c.args.report.now in
    let live = block (codes "live") live_fields r.live in
    let skeleton = block (codes "skeleton") edge_fields r.skeleton in
    let triangles = block (codes "triangles") tri_fields r.tris in
    grows_then _ _ _ live (skeleton ++ triangles) c.in_ok-write_block.ensures
    (grows_then _ _ _ skeleton triangles c.in_ok-write_block-2.ensures c.in_ok-write_block-3.ensures)
