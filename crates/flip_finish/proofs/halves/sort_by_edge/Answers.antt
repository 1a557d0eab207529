-- Sorted by a key is sorted by the order of edges.
use Rattle.std.proofs.Common.{rules}
use Rattle.std.proofs.lemmas.List.Sorted.{answers_always}
use Rattle.flip_finish.specs.declared.halves.Half.{Half}
use Rattle.flip_finish.proofs.Sorting.{ascending-from_sorted}
use Rattle.flip_finish.proofs.halves.sort_by_edge.Goals as goal

pub returns-clause-ascending : goal.returns-clause-ascending
returns-clause-ascending c =
    ascending-from_sorted _ (c.in_ok-sort_by_key.ensures.sorted (λ (h : Half). h.edge) (answers_always _ _ _ (λ f a r f' k. search rules)))
