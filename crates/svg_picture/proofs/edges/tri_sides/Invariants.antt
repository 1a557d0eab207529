use Rattle.std.proofs.Common.{◌≡◌, take}
use Rattle.std.specs.Prelude.{flat_map}
use Rattle.exact_predicates.specs.Triangulation.{sides}
use Rattle.svg_picture.proofs.edges.tri_sides.Given as goal

abbrev pub invariant-loop-t : goal.invariant-loop-t
invariant-loop-t l = l.all.items ≡ flat_map sides (take l.t-index l.tris)
