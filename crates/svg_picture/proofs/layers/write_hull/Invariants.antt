use Rattle.std.proofs.Common.{map, take}
use Rattle.cert_text.specs.Texts.{Grows}
use Rattle.svg_picture.specs.Picture.{spot_at, spot_text}
use Rattle.svg_picture.proofs.layers.write_hull.Given as goal

abbrev pub invariant-loop-u : goal.invariant-loop-u
invariant-loop-u l = Grows l.initial.text.items l.text.items (map (λ u. spot_text (spot_at l.spots u)) (take l.u-index l.hull))
