use Rattle.std.specs.List.{AllWithin}
use Rattle.exact_predicates.specs.Triangulation.{IsEmpty}
use Rattle.dual_checker.proofs.corners.are_empty.Given as goal

abbrev pub invariant-loop-tri : goal.invariant-loop-tri
invariant-loop-tri l = AllWithin (IsEmpty l.points.points) l.tris 0 l.tri-index
