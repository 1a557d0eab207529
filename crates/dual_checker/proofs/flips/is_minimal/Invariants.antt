use Rattle.std.specs.List.{AllWithin}
use Rattle.dual_checker.specs.HalfEdges.{IsMinimalAt}
use Rattle.dual_checker.proofs.flips.is_minimal.Given as goal

abbrev pub invariant-loop-half : goal.invariant-loop-half
invariant-loop-half l = AllWithin (λ h. IsMinimalAt l.points.points l.halves l.rim h.side) l.halves 0 l.half-index
