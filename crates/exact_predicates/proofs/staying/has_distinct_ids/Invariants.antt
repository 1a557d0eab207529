use Rattle.std.proofs.Common.{take}
use Rattle.exact_predicates.proofs.DistinctIds.{AreIds}
use Rattle.exact_predicates.proofs.staying.has_distinct_ids.Given as goal

abbrev pub invariant-loop-p : goal.invariant-loop-p
invariant-loop-p l = AreIds (take l.p-index l.points) l.ids
