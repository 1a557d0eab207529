use Rattle.std.specs.List.{AllWithin}
use Rattle.exact_predicates.specs.Flip.{IsMinimalBetween}
use Rattle.dual_checker.proofs.flips.has_minimal_with.Given as goal

abbrev pub invariant-loop-right : goal.invariant-loop-right
invariant-loop-right l = AllWithin (λ h. ¬ IsMinimalBetween l.points.points l.side.from l.side.to l.apex h.apex) l.rights 0 l.right-index
