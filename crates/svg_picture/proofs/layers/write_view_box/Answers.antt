use Rattle.std.proofs.Common.{◌∙◌, ◌++◌, ap, codes, decimal}
use Rattle.svg_picture.specs.Frames.{extent, height, width}
use Rattle.svg_picture.specs.Picture.{view_box}
use Rattle.svg_picture.proofs.Pieces.{piece_then}
use Rattle.svg_picture.proofs.layers.write_view_box.Goals as goal

pub returns : goal.returns
unfolding view_box
returns c =
    let f = c.args.frame.now in
    let wide = c.extent.ensures ∙ ap (extent f) c.width.ensures.is in
    let high = c.extent-2.ensures ∙ ap (extent f) c.height.ensures.is in
    let corner = codes " viewBox='0 0 " in
    let one = corner ++ decimal (extent f (width f)) in
    let two = one ++ codes " " in
    let three = two ++ decimal (extent f (height f)) in
    let first = piece_then _ _ _ corner _ c.in_ok-word.ensures (rw wide at c.in_ok-number.ensures) in
    let second = piece_then _ _ _ one (codes " ") first c.in_ok-word-2.ensures in
    let third = piece_then _ _ _ two _ second (rw high at c.in_ok-number-2.ensures) in
    piece_then _ _ _ three (codes "'") third c.in_ok-word-3.ensures
