use Rattle.std.proofs.Common.{◌≡◌, map, take}
use Rattle.exact_predicates.specs.Hull.{ring_pairs}
use Rattle.dual_checker.specs.HalfEdges.{side_of}
use Rattle.dual_checker.proofs.rim.Rim.of.Given as goal

abbrev pub invariant-loop-k : goal.invariant-loop-k
invariant-loop-k l = l.sides.items ≡ map side_of (take l.k (ring_pairs l.hull))
