use Rattle.std.proofs.Common.{◌++◌, ◌∷◌, [], List, codes, map, subst}
use Rattle.std.proofs.lemmas.List.{take_all}
use Rattle.cert_text.specs.Texts.{Grows}
use Rattle.cert_text.proofs.Growing.{grows_then}
use Rattle.svg_picture.specs.declared.frame.Spot.{Spot}
use Rattle.svg_picture.specs.Picture.{closing, dot, opening}
use Rattle.svg_picture.proofs.layers.write_points.Goals as goal

pub returns : goal.returns
returns c =
    let first = opening (codes "points") c.args.look.colour.now c.args.look.thickness ∷ [] in
    let parts = map dot c.args.spots.now in
    let body = subst (λ (ss : List Spot). Grows c.open.new.text.items c.loop-spot.text.items (map dot ss))
    (take_all c.loop-spot.spot-index c.args.spots.now c.loop-spot-test.false) c.loop-spot.invariant in
    grows_then _ _ _ first (parts ++ closing ∷ []) c.in_ok-open.ensures (grows_then _ _ _ parts (closing ∷ []) body c.in_ok-close.ensures)
