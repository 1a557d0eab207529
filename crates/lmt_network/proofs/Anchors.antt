-- How often an edge is priced, and how often it is an edge of a triangulation.
use Rattle.std.proofs.Common.{◌≡◌, ℕ, ◌+◌, ◌<◌, ◌≤◌, min, max, true, List, [], ◌∷◌, map, AllPairs, Contains, arith, refl, ap, sym, ◌∙◌, subst, ⊎_elim}
use Rattle.std.proofs.lemmas.Bool.{cases_lt}
use Rattle.std.proofs.lemmas.List.Elements.{All-contains}
use Rattle.std.proofs.lemmas.List.Sums.{sum_by-cons}
use Rattle.exact_predicates.specs.declared.edge.Edge.{Edge}
use Rattle.exact_predicates.specs.declared.point.Point.{Point}
use Rattle.exact_predicates.specs.declared.tri.Tri.{Tri}
use Rattle.exact_predicates.specs.Candidates.{EdgePrecedes}
use Rattle.exact_predicates.specs.Hull.{IsHull, IsHullPair}
use Rattle.exact_predicates.specs.Triangulation.{IsTriangulation, edges, hit}
use Rattle.exact_predicates.proofs.Counts.{hit-some}
use Rattle.exact_predicates.proofs.EdgeCounts.{edge_count-sides}
use Rattle.exact_predicates.proofs.Equalities.{Edge-equal}
use Rattle.exact_predicates.proofs.HullPairs.{pair_none, pair_once}
use Rattle.exact_predicates.proofs.ListFacts.{AllPairs-head, AllPairs-tail}
use Rattle.exact_predicates.proofs.Pairs.{hit_none, hit_same, hit_turned}
use Rattle.lmt_network.specs.Edges.{IsEdgeOf}
use Rattle.lmt_network.specs.Prices.{Priced, is_on_hull, priced_edges}
use Rattle.exact_predicates.proofs.SidesCounted.{count}
use Rattle.lmt_network.proofs.Entries.{IsEntry, contains_map, is_on_hull_decides, map_contains}
use Rattle.lmt_network.proofs.Filters.{count_from, count_to}
use Rattle.exact_predicates.proofs.ListOrder.{EdgePrecedes-irreflexive}

-- the ends of a pair, the lesser first, and those of a priced edge
abbrev pub up : ℕ × ℕ → ℕ × ℕ
up s = (min s.0 s.1, max s.0 s.1)

abbrev pub ends : Priced → ℕ × ℕ
ends p = (p.edge.a, p.edge.b)

-- an edge is priced once at most
priced-once : (prices : List Priced) (x y : ℕ) → AllPairs EdgePrecedes (priced_edges prices) → count (map ends prices) x y ≤ 1
priced-once [] x y rise = omega arith
priced-once (p ∷ prices) x y rise =
    ⊎_elim
    (λ l. omega (arith, sum_by-cons (hit x y) (ends p) (map ends prices), priced-once prices x y (AllPairs-tail EdgePrecedes p.edge (priced_edges prices) rise)))
    (λ l.
    let e = hit-some x y p.edge.a p.edge.b l in
    let one : hit x y (ends p) ≡ 1 = ap (λ a. hit x y (a, p.edge.b)) e.0 ∙ (ap (λ b. hit x y (x, b)) e.1 ∙ hit_same x y) in
    ⊎_elim
    (λ none. omega (arith, sum_by-cons (hit x y) (ends p) (map ends prices), one))
    (λ some.
    let (q, has, is) = map_contains ends prices (x, y) (count_to (map ends prices) x y some) in
    let same : q.edge ≡ p.edge = Edge-equal q.edge p.edge (ap (λ (s : ℕ × ℕ). s.0) is ∙ sym e.0) (ap (λ (s : ℕ × ℕ). s.1) is ∙ sym e.1) in
    let after = All-contains (EdgePrecedes p.edge) (priced_edges prices) q.edge (AllPairs-head EdgePrecedes p.edge (priced_edges prices) rise) (contains_map (λ r. r.edge) prices q has) in
    absurd (EdgePrecedes-irreflexive p.edge (subst (λ f. EdgePrecedes p.edge f) same after)))
    (cases_lt (count (map ends prices) x y) 1))
    (cases_lt (hit x y (ends p)) 1)

-- an edge that is priced is so once
pub entry_once : (prices : List Priced) (x y : ℕ) (p : Priced) → AllPairs EdgePrecedes (priced_edges prices) → IsEntry prices x y p → count (map ends prices) x y ≡ 1
entry_once prices x y p rise h =
    let is : ends p ≡ (x, y) = ap (λ a. (a, p.edge.b)) h.a_is ∙ ap (λ b. (x, b)) h.b_is in
    omega (arith, priced-once prices x y rise, count_from (map ends prices) x y (subst (Contains (map ends prices)) is (contains_map ends prices p h.has)))

-- pairs are counted whichever way they run
hit-up : (x y s t : ℕ) → x < y → hit x y (up (s, t)) ≡ hit x y (s, t) + hit y x (s, t)
hit-up x y s t l =
    ⊎_elim
    (λ k.
    let low : min s t ≡ s = omega arith in
    let high : max s t ≡ t = omega arith in
    let none : hit y x (s, t) ≡ 0 = hit_none y x s t (λ e. absurd (omega (arith, e.0, e.1, l, k))) in
    ap (λ a. hit x y (a, max s t)) low ∙ (ap (λ b. hit x y (s, b)) high ∙ omega arith))
    (λ k.
    let low : min s t ≡ t = omega arith in
    let high : max s t ≡ s = omega arith in
    let none : hit x y (s, t) ≡ 0 = hit_none x y s t (λ e. absurd (omega (arith, e.0, e.1, l, k))) in
    ap (λ a. hit x y (a, max s t)) low ∙ (ap (λ b. hit x y (t, b)) high ∙ omega (arith, hit_turned x y t s)))
    (cases_lt s t)

pub count_up : (es : List (ℕ × ℕ)) (x y : ℕ) → x < y → count (map up es) x y ≡ count es x y + count es y x
count_up [] x y l = refl
count_up (s ∷ es) x y l =
    omega (
      arith,
      sum_by-cons (hit x y) (up s) (map up es),
      sum_by-cons (hit x y) s es,
      sum_by-cons (hit y x) s es,
      hit-up x y s.0 s.1 l,
      count_up es x y l,
    )

-- an edge of the hull is an edge of each triangulation once
pub hull_once : (ps : List Point) (hull : List ℕ) (tris : List Tri) (x y : ℕ) → IsHull ps hull → IsTriangulation ps hull tris → x < y → is_on_hull hull x y ≡ true
    → count (map up (edges hull tris)) x y ≡ 1
hull_once ps hull tris x y h t l on =
    let total = count_up (edges hull tris) x y l in
    let sides = edge_count-sides ps hull tris x y h t l in
    ⊎_elim
    (λ (p : IsHullPair hull x y).
    let no_back : ¬ IsHullPair hull y x = λ back. absurd (omega (arith, t.hull_once y x back, t.none_outside x y p)) in
    omega (arith, total, sides, t.hull_once x y p, pair_none hull y x no_back))
    (λ (p : IsHullPair hull y x). omega (arith, total, sides, t.none_outside y x p, pair_once hull y x h.distinct p))
    ((is_on_hull_decides hull x y).0 on)

-- an edge of the triangulation is counted
pub edge_counted : (hull : List ℕ) (tris : List Tri) (e : Edge) → IsEdgeOf hull tris e → 1 ≤ count (map up (edges hull tris)) e.a e.b
edge_counted hull tris e (k, s, k_in, at_k, joins) =
    let is : up s ≡ (e.a, e.b) = ap (λ a. (a, max s.0 s.1)) (sym joins.0) ∙ ap (λ b. (e.a, b)) (sym joins.1) in
    count_from (map up (edges hull tris)) e.a e.b (subst (Contains (map up (edges hull tris))) is (contains_map up (edges hull tris) s (k, k_in, at_k)))
