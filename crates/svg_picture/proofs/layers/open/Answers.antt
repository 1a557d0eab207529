use Rattle.std.proofs.Common.{◌++◌, codes, decimal}
use Rattle.svg_picture.specs.Picture.{attribute, opening, path_start}
use Rattle.svg_picture.proofs.Pieces.{line_ends, piece_then}
use Rattle.svg_picture.proofs.layers.open.Goals as goal

pub returns : goal.returns
unfolding opening
returns c =
    let named = codes "<g" ++ attribute (codes "id") c.args.name.now in
    let coloured = named ++ attribute (codes "stroke") c.args.look.colour.now in
    let wide = coloured ++ attribute (codes "stroke-width") (decimal c.args.look.thickness) in
    let first = piece_then _ _ _ (codes "<g") _ c.in_ok-word.ensures c.in_ok-write_attribute.ensures in
    let second = piece_then _ _ _ named _ first c.in_ok-write_attribute-2.ensures in
    let third = piece_then _ _ _ coloured _ second (rw c.format.ensures.text at c.in_ok-write_attribute-3.ensures) in
    line_ends _ _ _ wide path_start third c.in_ok-word-2.ensures
