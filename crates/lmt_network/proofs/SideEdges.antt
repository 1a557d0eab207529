-- The edges of a triangulation, from the sides of its triangles and the pairs of the hull.
use Rattle.std.proofs.Common.{◌≡◌, ◌≢◌, ℕ, ◌<◌, ◌≤◌, List, filter, flat_map, Contains, refl, subst, ⊎_elim, inl, inr, arith}
use Rattle.std.proofs.lemmas.Bool.{cases_lt}
use Rattle.std.proofs.lemmas.List.Elements.{All-contains}
use Rattle.exact_predicates.specs.declared.edge.Edge.{Edge}
use Rattle.exact_predicates.specs.declared.point.Point.{Point}
use Rattle.exact_predicates.specs.declared.tri.Tri.{Tri}
use Rattle.exact_predicates.specs.Hull.{IsHullPair, ring_pairs}
use Rattle.exact_predicates.specs.Triangulation.{IsEmpty, IsTriangulation, sides, is_inner}
use Rattle.exact_predicates.specs.Candidates.{Joins, HasEdge, IsEmptyOver}
use Rattle.exact_predicates.proofs.Elements.{Any-append_left, Any-append_right, Any-append_cases}
use Rattle.exact_predicates.proofs.Equalities.{Joins-comm, HasEdge-Contains}
use Rattle.exact_predicates.proofs.Pairs.{is_inner_decides, pair_or_not}
use Rattle.lmt_network.specs.Live.{IsHullEdge}
use Rattle.lmt_network.specs.Numbers.{HasSide}
use Rattle.lmt_network.proofs.Filters.{filter-from, filter-to, side_to, count_from, count_to}
use Rattle.lmt_network.specs.Edges.{IsEdgeOf}

-- u and v are the ends of an edge of the triangulation: a pair of the hull, or a side that goes up and is none
pub data IsEnds (hull : List ℕ) (tris : List Tri) (u v : ℕ) : Type 0 where
  pair : IsHullPair hull u v → IsEnds hull tris u v
  inside : u < v → ¬ IsHullPair hull u v → Contains (filter (is_inner hull) (flat_map sides tris)) (u, v) → IsEnds hull tris u v

-- the two ends of an edge of the triangulation
pub ends_of : (hull : List ℕ) (tris : List Tri) (e : Edge) → IsEdgeOf hull tris e → (u : ℕ) × (v : ℕ) × Joins e u v × IsEnds hull tris u v
ends_of hull tris e h =
    ⊎_elim
    (λ left. let (k, s, k_in, at_k, joins) = left in (s.0, s.1, joins, pair (k, k_in, at_k)))
    (λ right.
    let (k, s, k_in, at_k, joins) = right in
    let kept : Contains (filter (is_inner hull) (flat_map sides tris)) s = (k, k_in, at_k) in
    let d = (is_inner_decides hull s.0 s.1).0 (filter-from (is_inner hull) (flat_map sides tris) s kept).1 in
    (s.0, s.1, joins, inside d.0 d.1 kept))
    (Any-append_cases (λ s. Joins e s.0 s.1) (ring_pairs hull) (filter (is_inner hull) (flat_map sides tris)) h)

-- a pair of the hull is an edge
pair_edge : (hull : List ℕ) (tris : List Tri) (e : Edge) (u v : ℕ) → Joins e u v → IsHullPair hull u v → IsEdgeOf hull tris e
pair_edge hull tris e u v joins (k, k_in, at_k) =
    Any-append_left (λ s. Joins e s.0 s.1) (ring_pairs hull) (filter (is_inner hull) (flat_map sides tris)) (k, (u, v), k_in, at_k, joins)

-- and so is each other side that goes up
inner_edge : (hull : List ℕ) (tris : List Tri) (e : Edge) (u v : ℕ) → Joins e u v → u < v → ¬ IsHullPair hull u v → Contains (flat_map sides tris) (u, v) → IsEdgeOf hull tris e
inner_edge hull tris e u v joins up none has =
    let (k, k_in, at_k) = filter-to (is_inner hull) (flat_map sides tris) (u, v) has ((is_inner_decides hull u v).1 (up, none)) in
    Any-append_right (λ s. Joins e s.0 s.1) (ring_pairs hull) (filter (is_inner hull) (flat_map sides tris)) (k, (u, v), k_in, at_k, joins)

-- the edge between two numbers
pub edge_between : (u v : ℕ) → u ≢ v → (e : Edge) × Joins e u v
edge_between u v apart =
    ⊎_elim
    (λ (l : u < v). (record { a = u; b = v; ascending = l }, (omega arith, omega arith)))
    (λ (m : v ≤ u). let l : v < u = omega arith in (record { a = v; b = u; ascending = l }, (omega arith, omega arith)))
    (cases_lt u v)

-- each side of a triangulation is an edge of it
pub side_edge : (ps : List Point) (hull : List ℕ) (tris : List Tri) (e : Edge) (u v : ℕ) → IsTriangulation ps hull tris → Joins e u v → u ≢ v → Contains (flat_map sides tris) (u, v) → IsEdgeOf hull tris e
side_edge ps hull tris e u v t joins apart has =
    ⊎_elim
    (λ p. pair_edge hull tris e u v joins p)
    (λ none. ⊎_elim
    (λ p. pair_edge hull tris e v u (Joins-comm e u v joins) p)
    (λ none_back. ⊎_elim
    (λ (l : u < v). inner_edge hull tris e u v joins l none has)
    (λ (m : v ≤ u).
    let balance = t.balanced u v apart none none_back in
    let once = count_from (flat_map sides tris) u v has in
    inner_edge hull tris e v u (Joins-comm e u v joins) (omega arith) none_back (count_to (flat_map sides tris) v u (omega (arith, balance, once))))
    (cases_lt u v))
    (pair_or_not hull v u))
    (pair_or_not hull u v)

-- a triangle of the list stands over a list that has the edges of the triangulation
pub tri_over : (ps : List Point) (hull : List ℕ) (tris : List Tri) (es : List Edge) (t : Tri) → IsTriangulation ps hull tris → ((e : Edge) → IsEdgeOf hull tris e → Contains es e)
    → Contains tris t → IsEmptyOver ps es t
tri_over ps hull tris es t are edges_in (k, k_in, at_k) =
    record {
      empty = All-contains (IsEmpty ps) tris t are.empty (k, k_in, at_k);
      ab = at t.a t.b (omega (arith, t.below_b)) (t.c, inl (refl, refl, refl));
      bc = at t.b t.c t.apart (t.a, inr (inl (refl, refl, refl)));
      ca = at t.c t.a (omega (arith, t.below_c)) (t.b, inr (inr (refl, refl, refl)));
    }
  where
    at : (u v : ℕ) → u ≢ v → HasSide t u v → HasEdge es u v
    at u v apart side =
        let e = edge_between u v apart in
        HasEdge-Contains es e.0 u v e.1 (edges_in e.0 (side_edge ps hull tris e.0 u v are e.1 apart (side_to tris u v (k, t, k_in, at_k, side))))

-- an edge that joins a pair of the hull is a hull edge
pub hull_edge : (hull : List ℕ) (e : Edge) (u v : ℕ) → Joins e u v → IsHullPair hull u v → IsHullEdge hull e
hull_edge hull e u v joins p =
    let j0 = joins.0 in
    let j1 = joins.1 in
    ⊎_elim
    (λ (l : u < v).
    let a_is : u ≡ e.a = omega arith in let b_is : v ≡ e.b = omega arith in
    inl (subst (λ (x : ℕ). IsHullPair hull x e.b) a_is (subst (λ (y : ℕ). IsHullPair hull u y) b_is p)))
    (λ (m : v ≤ u).
    let a_is : v ≡ e.a = omega arith in let b_is : u ≡ e.b = omega arith in
    inr (subst (λ (x : ℕ). IsHullPair hull x e.a) b_is (subst (λ (y : ℕ). IsHullPair hull u y) a_is p)))
    (cases_lt u v)
