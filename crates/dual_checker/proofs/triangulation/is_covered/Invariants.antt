use Rattle.std.specs.List.{AllWithin}
use Rattle.dual_checker.specs.HalfEdges.{IsCoveredOnce}
use Rattle.dual_checker.proofs.triangulation.is_covered.Given as goal

abbrev pub invariant-loop-side : goal.invariant-loop-side
invariant-loop-side l = AllWithin (IsCoveredOnce l.halves) l.rim 0 l.side-index
