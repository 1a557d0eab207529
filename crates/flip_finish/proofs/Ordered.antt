-- An edge of a triangulation is there once, and its triangles, once sorted, ascend strictly.
use Rattle.std.proofs.Common.{◌≡◌, ◌≢◌, ℕ, ◌<◌, ◌≤◌, false, List, get_or, AllPairs, IsSorted, arith, ap, sym, ⊎_elim, inl, inr}
use Rattle.std.specs.Cmp.{IsTotalOrder}
use Rattle.std.specs.Ordering.{is_lt}
use Rattle.std.proofs.lemmas.Bool.{both_ways, cases_order}
use Rattle.std.proofs.lemmas.Cmp.{nat_cmp_total, on_total, then_total}
use Rattle.std.proofs.lemmas.List.Sorted.{ranks_by, sorted_far}
use Rattle.exact_predicates.specs.declared.point.Point.{Point}
use Rattle.exact_predicates.specs.declared.tri.Tri.{Tri}
use Rattle.exact_predicates.specs.Candidates.{TriPrecedes}
use Rattle.exact_predicates.specs.Hull.{IsHull, IsHullPair}
use Rattle.exact_predicates.specs.PointSet.{IsPointSet}
use Rattle.exact_predicates.specs.Triangulation.{IsTriangulation, edges, tri_cmp}
use Rattle.exact_predicates.proofs.EdgeCounts.{edge_count-sides}
use Rattle.exact_predicates.proofs.Equalities.{Tri-equal}
use Rattle.exact_predicates.proofs.HullPairs.{pair_none, pair_once}
use Rattle.exact_predicates.proofs.ListOrder.{tri_cmp-less}
use Rattle.exact_predicates.proofs.Pairs.{pair_or_not}
use Rattle.flip_finish.specs.Mesh.{edge_count}
use Rattle.flip_finish.proofs.Once.{side_once, triangles_differ}

-- an edge is there at most once
pub edge_once : (ps : List Point) (hull : List ℕ) (tris : List Tri) (x y : ℕ) → IsPointSet ps → IsHull ps hull → IsTriangulation ps hull tris
    → x < y → edge_count (edges hull tris) x y ≤ 1
edge_once ps hull tris x y s h t up =
    let sum = edge_count-sides ps hull tris x y h t up in
    ⊎_elim
    (λ (p : IsHullPair hull y x). omega (arith, sum, t.none_outside y x p, pair_once hull y x h.distinct p))
    (λ none. omega (arith, sum, side_once ps hull tris s h t x y, pair_none hull y x none))
    (pair_or_not hull y x)

tri_total : IsTotalOrder tri_cmp
tri_total = then_total (on_total (λ t. t.a) nat_cmp_total) (then_total (on_total (λ t. t.b) nat_cmp_total) (on_total (λ t. t.c) nat_cmp_total))

-- of two triangles that differ, the one that is not less comes after the other
precedes_not_less : (x y : Tri) → is_lt (tri_cmp y x) ≡ false → x ≢ y → TriPrecedes x y
precedes_not_less x y h differ =
    ⊎_elim
    (λ a. ⊎_elim
    (λ b. ⊎_elim
    (λ c. absurd (differ (Tri-equal x y a b c)))
    (λ o. ⊎_elim (λ l. inr (inr (a, b, l))) (λ l. absurd (not_after (inr (inr (sym a, sym b, l))))) o)
    (cases_order x.c y.c))
    (λ o. ⊎_elim (λ l. inr (inl (a, l))) (λ l. absurd (not_after (inr (inl (sym a, l))))) o)
    (cases_order x.b y.b))
    (λ o. ⊎_elim (λ l. inl l) (λ l. absurd (not_after (inl l))) o)
    (cases_order x.a y.a)
  where
    not_after : ¬ TriPrecedes y x
    not_after before = both_ways _ h (ap is_lt ((tri_cmp-less y x).1 before))

-- the sorted triangles of a triangulation ascend strictly
pub ascending_tris : (ps : List Point) (hull : List ℕ) (ts : List Tri) → IsPointSet ps → IsHull ps hull → IsTriangulation ps hull ts
    → IsSorted tri_cmp ts → AllPairs TriPrecedes ts
ascending_tris ps hull ts s h t sorted = λ i j d l j_in.
    precedes_not_less (get_or ts i d) (get_or ts j d)
    (sorted_far (λ x y. is_lt (tri_cmp x y)) (ranks_by tri_total (λ (x : Tri). x)) ts sorted i j d (omega arith) j_in)
    (triangles_differ ps hull ts s h t i j d l j_in)
