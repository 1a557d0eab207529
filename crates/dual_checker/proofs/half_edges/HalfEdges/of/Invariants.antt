use Rattle.std.proofs.Common.{◌≡◌, take}
use Rattle.dual_checker.specs.HalfEdges.{half_edges}
use Rattle.dual_checker.proofs.half_edges.HalfEdges.of.Given as goal

abbrev pub invariant-loop-tri : goal.invariant-loop-tri
invariant-loop-tri l = l.items.items ≡ half_edges (take l.tri-index l.tris)
