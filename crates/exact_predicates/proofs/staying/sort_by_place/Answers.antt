-- Points that are sorted by their coordinates ascend, since no two have the same.
use Rattle.std.proofs.Common.{rules}
use Rattle.std.proofs.lemmas.List.Sorted.{answers_always}
use Rattle.exact_predicates.proofs.Places.{place_of, ascending-from_sorted, HasDistinctPlaces-IsPermutation}
use Rattle.exact_predicates.proofs.staying.sort_by_place.Goals as goal

pub returns-clause-ascending : goal.returns-clause-ascending
returns-clause-ascending c =
    let sorted = c.in_ok-sort_by_key.ensures in
    ascending-from_sorted _ (HasDistinctPlaces-IsPermutation _ _ sorted.permutation c.requires)
    (sorted.sorted place_of (answers_always _ _ _ (λ f a r f' k. search rules)))
