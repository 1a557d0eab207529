use Rattle.std.proofs.Common.{map, take}
use Rattle.cert_text.specs.Texts.{Grows}
use Rattle.svg_picture.specs.Picture.{stroke}
use Rattle.svg_picture.proofs.layers.write_edges.Given as goal

abbrev pub invariant-loop-u : goal.invariant-loop-u
invariant-loop-u l = Grows l.initial.text.items l.text.items (map (stroke l.spots) (take l.u-index l.edges))
