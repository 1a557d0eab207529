use Rattle.std.proofs.Common.{◌∙◌, length}
use Rattle.std.proofs.lemmas.List.Elements.{All-same}
use Rattle.svg_picture.specs.Edges.{edges_once, other_edges, skeleton_edges, tri_sides}
use Rattle.svg_picture.proofs.Joining.{Joins, others_join, skeleton_joins, triangulation_joins}
use Rattle.svg_picture.proofs.picture.write_edge_layers.Goals as goal

pub write_edges-requires : goal.write_edges-requires
write_edges-requires c =
    let n = length c.args.spots.now in
    All-same (Joins n) c.deref.result.now (other_edges c.args.report.now) (c.deref.ensures.value ∙ c.in_ok-drawn.ensures.others)
    (others_join c.args.report.now n c.requires.within c.requires.spots)

pub write_edges-requires-2 : goal.write_edges-requires-2
write_edges-requires-2 c =
    let n = length c.args.spots.now in
    All-same (Joins n) c.deref-2.result.now (edges_once (tri_sides c.args.report.now)) (c.deref-2.ensures.value ∙ c.in_ok-drawn.ensures.triangulation)
    (triangulation_joins c.args.report.now n c.requires.within c.requires.spots)

pub write_edges-requires-3 : goal.write_edges-requires-3
write_edges-requires-3 c =
    let n = length c.args.spots.now in
    All-same (Joins n) c.deref-3.result.now (skeleton_edges c.args.report.now) (c.deref-3.ensures.value ∙ c.in_ok-drawn.ensures.skeleton)
    (skeleton_joins c.args.report.now n c.requires.within c.requires.spots)
