use Rattle.std.proofs.Common.{◌≡◌, map, take}
use Rattle.svg_picture.specs.Edges.{ends}
use Rattle.svg_picture.proofs.edges.ends.Given as goal

abbrev pub invariant-loop-e : goal.invariant-loop-e
invariant-loop-e l = l.all.items ≡ map ends (take l.e-index l.edges)
