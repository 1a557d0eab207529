use Rattle.std.proofs.Common.{map, take}
use Rattle.cert_text.specs.Texts.{Grows}
use Rattle.svg_picture.specs.Picture.{dot}
use Rattle.svg_picture.proofs.layers.write_points.Given as goal

abbrev pub invariant-loop-spot : goal.invariant-loop-spot
invariant-loop-spot l = Grows l.initial.text.items l.text.items (map dot (take l.spot-index l.spots))
