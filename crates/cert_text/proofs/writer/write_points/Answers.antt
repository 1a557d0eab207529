use Rattle.std.proofs.Common.{codes, ◌++◌, ◌∷◌, []}
use Rattle.cert_text.specs.Texts.{point_fields, hull_fields, count_line, block}
use Rattle.cert_text.proofs.Growing.{grows_then}
use Rattle.cert_text.proofs.writer.write_points.Goals as goal

pub returns : goal.returns
returns c =
    let r = c.args.report.now in
    let points = block (codes "points") point_fields r.points in
    let hull = block (codes "hull") hull_fields r.hull in
    let candidates = count_line (codes "candidates") r.candidates ∷ [] in
    grows_then _ _ _ points (hull ++ candidates) c.in_ok-write_block.ensures
    (grows_then _ _ _ hull candidates c.in_ok-write_block-2.ensures c.in_ok-write_count.ensures)
