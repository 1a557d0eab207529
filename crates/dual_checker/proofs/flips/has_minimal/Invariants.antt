use Rattle.std.specs.List.{AllWithin}
use Rattle.dual_checker.specs.HalfEdges.{HasMinimalWith}
use Rattle.dual_checker.proofs.flips.has_minimal.Given as goal

abbrev pub invariant-loop-left : goal.invariant-loop-left
invariant-loop-left l = AllWithin (λ h. ¬ HasMinimalWith l.points.points l.side h.apex l.rights) l.lefts 0 l.left-index
