use Rattle.std.proofs.lemmas.List.Sorted.{IsNonDecreasingBy-from_sort}
use Rattle.empty_triangles.proofs.Thirds.{AreThirds-permutation, AreThirds-hidden, rising}
use Rattle.empty_triangles.proofs.fan.fill_thirds.Goals as goal

pub returns-in_ok-thirds_at-in-Some-clause-are : goal.returns-in_ok-thirds_at-in-Some-clause-are
returns-in_ok-thirds_at-in-Some-clause-are c =
    AreThirds-permutation _ _ _ _ _ _ c.sort_unstable.ensures.permutation
    (rw (rw c.deref.ensures.value at c.in-Some.ensures.1) at c.in_ok-thirds_at-in-Some.ensures.are)

pub returns-in_ok-thirds_at-in-Some-clause-ascending : goal.returns-in_ok-thirds_at-in-Some-clause-ascending
returns-in_ok-thirds_at-in-Some-clause-ascending c =
    rising _ _ c.sort_unstable.ensures.permutation c.in_ok-thirds_at-in-Some.ensures.distinct (λ j k d l m. IsNonDecreasingBy-from_sort (λ x. x) _ c.sort_unstable.ensures.sorted j k d l m)

pub returns-in-None-clause-are : goal.returns-in-None-clause-are
returns-in-None-clause-are c =
    rw c.clear.ensures.items
    (AreThirds-hidden _ _ _ _ _ _ c.len.ensures.valid c.requires.a_in c.requires.corner c.requires.neighbor c.requires.b_in (rw c.deref.ensures.value at c.in-None.ensures))
