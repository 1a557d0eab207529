use Rattle.std.proofs.Common.{take}
use Rattle.exact_predicates.proofs.Places.{IsMerged}
use Rattle.exact_predicates.proofs.staying.first_at_each_place.Given as goal

abbrev pub invariant-loop-p : goal.invariant-loop-p
invariant-loop-p l = IsMerged (take l.p-index l.points) l.most l.taken l.kept.items
