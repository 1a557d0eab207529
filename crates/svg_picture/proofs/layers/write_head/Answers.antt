use Rattle.std.proofs.Common.{◌++◌, ◌∷◌, []}
use Rattle.cert_text.proofs.Growing.{grows_then}
use Rattle.svg_picture.specs.Picture.{head_lines, measures, paper, svg_start, svg_style}
use Rattle.svg_picture.proofs.Pieces.{line_ends, piece_then}
use Rattle.svg_picture.proofs.layers.write_head.Goals as goal

pub returns : goal.returns
unfolding head_lines
returns c =
    let measured = svg_start ++ measures c.args.frame.now in
    let sized = piece_then _ _ _ svg_start _ c.in_ok-word.ensures c.in_ok-write_measures.ensures in
    let first = line_ends _ _ _ measured svg_style sized c.in_ok-word-2.ensures in
    grows_then _ _ _ ((measured ++ svg_style) ∷ []) (paper ∷ []) first c.in_ok-word-3.ensures
