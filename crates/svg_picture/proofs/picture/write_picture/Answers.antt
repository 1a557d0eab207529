use Rattle.std.proofs.Common.{◌∙◌, ◌++◌, ◌∷◌, [], List, ap, codes, map, subst}
use Rattle.cert_text.specs.Texts.{Grows}
use Rattle.cert_text.proofs.Growing.{grows_then}
use Rattle.svg_picture.specs.declared.frame.Frame.{Frame}
use Rattle.svg_picture.specs.declared.frame.Spot.{Spot}
use Rattle.svg_picture.specs.Frames.{frame_of, spot_in}
use Rattle.svg_picture.specs.Picture.{edge_layers, head_lines, picture_lines, point_layers, spots_of}
use Rattle.svg_picture.proofs.picture.write_picture.Goals as goal

pub returns : goal.returns
unfolding picture_lines
returns c =
    let r = c.args.report.now in
    let points = c.as_slice-points.ensures.is in
    let frame = c.of-frame.ensures.is ∙ ap frame_of points in
    let spots = c.in_ok-spots.ensures ∙ ap (λ (f : Frame). map (spot_in f) c.as_slice-points.result.now) frame ∙ ap (map (spot_in (frame_of r.points))) points in
    let head = subst (λ (f : Frame). Grows c.new-text.result.items c.write_head.new.text.items (head_lines f)) frame c.in_ok-write_head.ensures in
    let edges = subst (λ (ss : List Spot). Grows c.write_head.new.text.items c.write_edge_layers.new.text.items (edge_layers ss r)) (c.deref.ensures.value ∙ spots) c.in_ok-write_edge_layers.ensures in
    let rest = subst (λ (ss : List Spot). Grows c.write_edge_layers.new.text.items c.write_point_layers.new.text.items (point_layers ss r)) (c.deref-2.ensures.value ∙ spots) c.in_ok-write_point_layers.ensures in
    let all = grows_then _ _ _ (head_lines (frame_of r.points)) (edge_layers (spots_of r) r ++ (point_layers (spots_of r) r ++ codes "</svg>" ∷ [])) head
    (grows_then _ _ _ (edge_layers (spots_of r) r) (point_layers (spots_of r) r ++ codes "</svg>" ∷ []) edges
    (grows_then _ _ _ (point_layers (spots_of r) r) (codes "</svg>" ∷ []) rest c.in_ok-word.ensures)) in
    rw c.new-text.ensures.items at all
