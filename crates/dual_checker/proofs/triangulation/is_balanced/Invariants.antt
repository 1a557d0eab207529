use Rattle.std.specs.List.{AllWithin}
use Rattle.dual_checker.specs.HalfEdges.{IsBalancedAt}
use Rattle.dual_checker.proofs.triangulation.is_balanced.Given as goal

abbrev pub invariant-loop-half : goal.invariant-loop-half
invariant-loop-half l = AllWithin (λ h. IsBalancedAt l.halves l.rim h.side) l.halves 0 l.half-index
