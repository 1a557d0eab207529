-- Halves that are sorted by their edges.
use Rattle.std.proofs.Common.{◌≡◌, false, List, get_or, AllPairs, arith, ap}
use Rattle.std.specs.Cmp.{IsTotalOrder}
use Rattle.std.specs.List.Sorted.{IsSortedByKey}
use Rattle.std.specs.Ordering.{is_lt}
use Rattle.std.proofs.lemmas.Bool.{both_ways}
use Rattle.std.proofs.lemmas.Cmp.{nat_cmp_total, on_total, then_total}
use Rattle.std.proofs.lemmas.List.Sorted.{ranks_by, sorted_far}
use Rattle.exact_predicates.specs.declared.edge.Edge.{Edge}
use Rattle.exact_predicates.specs.Candidates.{edge_cmp}
use Rattle.exact_predicates.proofs.ListOrder.{edge_cmp-precedes}
use Rattle.flip_finish.specs.declared.halves.Half.{Half}
use Rattle.flip_finish.specs.Mesh.{IsUpTo}

edge_total : IsTotalOrder edge_cmp
edge_total = then_total (on_total (λ e. e.a) nat_cmp_total) (on_total (λ e. e.b) nat_cmp_total)

-- an edge that no other one is less than
IsUpTo-not_less : (e f : Edge) → is_lt (edge_cmp f e) ≡ false → IsUpTo e f
IsUpTo-not_less e f h before = both_ways _ h (ap is_lt (edge_cmp-precedes f e before))

pub ascending-from_sorted : (hs : List Half) → IsSortedByKey (λ h. h.edge) edge_cmp hs → AllPairs (λ h k. IsUpTo h.edge k.edge) hs
ascending-from_sorted hs sorted = λ i j d l k.
    IsUpTo-not_less (get_or hs i d).edge (get_or hs j d).edge
    (sorted_far (λ a b. is_lt (edge_cmp a.edge b.edge)) (ranks_by edge_total (λ (h : Half). h.edge)) hs sorted i j d (omega arith) k)
