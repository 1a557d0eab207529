use Rattle.std.proofs.Common.{◌++◌, ◌∷◌, [], ℕ, List, codes, map, subst}
use Rattle.std.proofs.lemmas.List.{take_all}
use Rattle.cert_text.specs.Texts.{Grows}
use Rattle.cert_text.proofs.Growing.{grows_then}
use Rattle.svg_picture.specs.Picture.{closing, opening, spot_at, spot_text}
use Rattle.svg_picture.proofs.layers.write_hull.Goals as goal

pub returns : goal.returns
returns c =
    let corner : ℕ → List ℕ = λ u. spot_text (spot_at c.args.spots.now u) in
    let first = opening (codes "hull") c.args.look.colour.now c.args.look.thickness ∷ [] in
    let corners = map corner c.args.hull.now in
    let body = subst (λ (us : List ℕ). Grows c.word.new.text.items c.loop-u.text.items (map corner us))
    (take_all c.loop-u.u-index c.args.hull.now c.loop-u-test.false) c.loop-u.invariant in
    let turn = grows_then _ _ _ corners (codes "z" ∷ []) body c.in_ok-word-3.ensures in
    let path = grows_then _ _ _ (codes "M" ∷ []) (corners ++ codes "z" ∷ []) c.in_ok-word.ensures turn in
    grows_then _ _ _ first ((codes "M" ∷ (corners ++ codes "z" ∷ [])) ++ closing ∷ []) c.in_ok-open.ensures
    (grows_then _ _ _ (codes "M" ∷ (corners ++ codes "z" ∷ [])) (closing ∷ []) path c.in_ok-close.ensures)
