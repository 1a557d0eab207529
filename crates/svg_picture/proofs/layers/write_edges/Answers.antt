use Rattle.std.proofs.Common.{◌++◌, ◌∷◌, [], ℕ, List, map, subst}
use Rattle.std.proofs.lemmas.List.{take_all}
use Rattle.cert_text.specs.Texts.{Grows}
use Rattle.cert_text.proofs.Growing.{grows_then}
use Rattle.svg_picture.specs.Picture.{closing, opening, stroke}
use Rattle.svg_picture.proofs.layers.write_edges.Goals as goal

pub returns : goal.returns
returns c =
    let stroked = stroke c.args.spots.now in
    let first = opening c.args.name.now c.args.look.colour.now c.args.look.thickness ∷ [] in
    let parts = map stroked c.args.edges.now in
    let body = subst (λ (es : List (ℕ × ℕ)). Grows c.open.new.text.items c.loop-u.text.items (map stroked es))
    (take_all c.loop-u.u-index c.args.edges.now c.loop-u-test.false) c.loop-u.invariant in
    grows_then _ _ _ first (parts ++ closing ∷ []) c.in_ok-open.ensures (grows_then _ _ _ parts (closing ∷ []) body c.in_ok-close.ensures)
