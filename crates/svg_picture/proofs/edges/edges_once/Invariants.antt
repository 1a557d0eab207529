use Rattle.std.proofs.Common.{◌≡◌, take, filter}
use Rattle.svg_picture.specs.Edges.{is_once}
use Rattle.svg_picture.proofs.edges.edges_once.Given as goal

abbrev pub invariant-loop-u : goal.invariant-loop-u
invariant-loop-u l = l.once.items ≡ filter (is_once l.all) (take l.u-index l.all)
