-- The slacks of a triangulation add up to its length in whole millionths, less the anchors of its edges.
use Rattle.std.proofs.Common.{◌≡◌, ℕ, ◌*◌, ◌^◌, ◌<◌, min, max, true, false, cond, List, flat_map, Contains, nat_lt, ℤ, pos, ◌+ℤ◌, ◌-ℤ◌, ◌≤ℤ◌, arith, ap, ◌∙◌, ⊎_elim, inl}
use Rattle.std.proofs.lemmas.Bool.{cases_Bool, cases_lt, cond-true, cond-false, lt-ltb, le-ltb}
use Rattle.std.proofs.lemmas.Int.{ints}
use Rattle.exact_predicates.specs.declared.point.Point.{Point}
use Rattle.exact_predicates.specs.declared.tri.Tri.{Tri}
use Rattle.exact_predicates.specs.Hull.{IsHull, ring_pairs}
use Rattle.exact_predicates.specs.PointSet.{point_at}
use Rattle.exact_predicates.specs.Root.{root_down}
use Rattle.exact_predicates.specs.Triangulation.{IsTriangulation, edges, is_inner, sides}
use Rattle.exact_predicates.proofs.Orientation.{d2_comm}
use Rattle.exact_predicates.proofs.Pairs.{is_inner_decides}
use Rattle.length_enclosure.specs.Enclosure.{lo, weight}
use Rattle.lmt_network.specs.Edges.{HasEdgesIn}
use Rattle.lmt_network.specs.Prices.{IsFeasible, Priced, anchors_of, int_sum_by, is_on_hull, priced, priced_edges, share, slack, weight_between}
use Rattle.lmt_network.proofs.Entries.{anchors_of-is, is_on_hull-comm, is_on_hull_decides, priced-comm}
use Rattle.lmt_network.proofs.Filters.{count_from, filter-from}
use Rattle.lmt_network.proofs.SideEdges.{tri_over}
use Rattle.lmt_network.proofs.IntSums.{int_sum_by-append, int_sum_by-not_negative, int_sum_by-plus, int_sum_by-pos, int_sum_by-same}
use Rattle.exact_predicates.proofs.SidesCounted.{inner_sides, turned}
use Rattle.lmt_network.proofs.Shares.{sum_sides, sum_slacks}

-- the weight of an edge is that of its side, whichever way this runs
weight-up : (ps : List Point) (u v : ℕ) → weight ps (min u v, max u v) ≡ weight ps (u, v)
weight-up ps u v =
    ⊎_elim
    (λ l.
    let low : min u v ≡ u = omega arith in
    let high : max u v ≡ v = omega arith in
    ap (λ a. weight ps (a, max u v)) low ∙ ap (λ b. weight ps (u, b)) high)
    (λ l.
    let low : min u v ≡ v = omega arith in
    let high : max u v ≡ u = omega arith in
    ap (λ a. weight ps (a, max u v)) low ∙ (ap (λ b. weight ps (v, b)) high ∙ ap (λ d. root_down (10 ^ 12 * d)) (d2_comm (point_at ps v) (point_at ps u))))
    (cases_lt u v)

-- what an edge gives: its weight less its anchors
abbrev pub given : List Point → List ℕ → List Priced → ℕ × ℕ → ℤ
given ps hull prices s = pos (weight ps s) -ℤ anchors_of hull (priced prices s.0 s.1)

-- the share of a side, by where it lies
pub share-on : (ps : List Point) (hull : List ℕ) (prices : List Priced) (u v : ℕ) → is_on_hull hull u v ≡ true
    → share ps hull prices u v ≡ weight_between ps u v -ℤ (priced prices u v).value
unfolding share
share-on ps hull prices u v on = cond-true (is_on_hull hull u v) _ _ on

pub share-up : (ps : List Point) (hull : List ℕ) (prices : List Priced) (u v : ℕ) → is_on_hull hull u v ≡ false → u < v
    → share ps hull prices u v ≡ (weight_between ps u v -ℤ (priced prices u v).value) -ℤ (priced prices u v).left
unfolding share
share-up ps hull prices u v off l = cond-false (is_on_hull hull u v) _ _ off ∙ cond-true (nat_lt u v) _ _ (lt-ltb u v l)

pub share-down : (ps : List Point) (hull : List ℕ) (prices : List Priced) (u v : ℕ) → is_on_hull hull u v ≡ false → v < u
    → share ps hull prices u v ≡ (priced prices u v).value -ℤ (priced prices u v).right
unfolding share
share-down ps hull prices u v off l = cond-false (is_on_hull hull u v) _ _ off ∙ cond-false (nat_lt u v) _ _ (le-ltb u v (omega arith))

-- the side of an edge of the hull gives what the edge gives
share-hull : (ps : List Point) (hull : List ℕ) (prices : List Priced) (u v : ℕ) → is_on_hull hull u v ≡ true → share ps hull prices u v ≡ given ps hull prices (u, v)
share-hull ps hull prices u v on =
    let p = priced prices u v in
    let anchor : anchors_of hull p ≡ p.value = anchors_of-is hull prices u v ∙ ap (λ t. cond t p.value (p.left +ℤ p.right)) on in
    omega (arith, ints, share-on ps hull prices u v on, anchor, weight-up ps u v)

-- both sides of an inner edge give together what it gives
share-both : (ps : List Point) (hull : List ℕ) (prices : List Priced) (u v : ℕ) → is_on_hull hull u v ≡ false → u < v
    → share ps hull prices u v +ℤ share ps hull prices v u ≡ given ps hull prices (u, v)
share-both ps hull prices u v off l =
    let p = priced prices u v in
    let anchor : anchors_of hull p ≡ p.left +ℤ p.right = anchors_of-is hull prices u v ∙ ap (λ t. cond t p.value (p.left +ℤ p.right)) off in
    let same = priced-comm prices u v in
    omega (
      arith,
      ints,
      weight-up ps u v,
      share-up ps hull prices u v off l,
      share-down ps hull prices v u (is_on_hull-comm hull u v ∙ off) l,
      anchor,
      ap (λ (q : Priced). q.value) same,
      ap (λ (q : Priced). q.right) same,
    )

-- an inner side of a triangulation is not on the hull
pub inner_off : (ps : List Point) (hull : List ℕ) (tris : List Tri) (u v : ℕ) → IsTriangulation ps hull tris → Contains (inner_sides hull tris) (u, v)
    → (is_on_hull hull u v ≡ false) × (u < v)
inner_off ps hull tris u v t h =
    let kept = filter-from (is_inner hull) (flat_map sides tris) (u, v) h in
    let d = (is_inner_decides hull u v).0 kept.1 in
    let once = count_from (flat_map sides tris) u v kept.0 in (
      ⊎_elim
          (λ on. ⊎_elim
          (λ p. absurd (d.1 p))
          (λ p. absurd (omega (arith, once, t.none_outside v u p)))
          ((is_on_hull_decides hull u v).0 on))
          (λ off. off)
          (cases_Bool (is_on_hull hull u v)),
      d.0,
    )

-- all slacks together
pub slacks_given : (ps : List Point) (hull : List ℕ) (prices : List Priced) (tris : List Tri) → IsHull ps hull → IsTriangulation ps hull tris
    → int_sum_by (slack ps hull prices) tris ≡ int_sum_by (given ps hull prices) (edges hull tris)
slacks_given ps hull prices tris h t =
    let f : ℕ × ℕ → ℤ = λ s. share ps hull prices s.0 s.1 in
    let g = given ps hull prices in
    omega (
      arith,
      ints,
      sum_slacks ps hull prices tris,
      sum_sides f ps hull tris h t,
      int_sum_by-same f g (ring_pairs hull) (λ s m. share-hull ps hull prices s.0 s.1 ((is_on_hull_decides hull s.0 s.1).1 (inl m))),
      int_sum_by-same (λ s. f s +ℤ f (turned s)) g (inner_sides hull tris)
          (λ s m. let off = inner_off ps hull tris s.0 s.1 t m in share-both ps hull prices s.0 s.1 off.0 off.1),
      int_sum_by-append g (ring_pairs hull) (inner_sides hull tris),
    )

-- Where the triangles are live, the anchors of all edges are together at most the length.
pub anchors_below : (ps : List Point) (hull : List ℕ) (prices : List Priced) (tris : List Tri) → IsFeasible ps hull prices
    → IsHull ps hull → IsTriangulation ps hull tris → HasEdgesIn hull tris (priced_edges prices)
    → int_sum_by (λ s. anchors_of hull (priced prices s.0 s.1)) (edges hull tris) ≤ℤ pos (lo ps (edges hull tris))
anchors_below ps hull prices tris feasible h t live =
    let es = edges hull tris in
    let a : ℕ × ℕ → ℤ = λ s. anchors_of hull (priced prices s.0 s.1) in
    let g = given ps hull prices in
    let some = int_sum_by-not_negative (slack ps hull prices) tris (λ x m. feasible x (tri_over ps hull tris (priced_edges prices) x t live m)) in
    omega (
      arith,
      ints,
      some,
      slacks_given ps hull prices tris h t,
      int_sum_by-plus g a es,
      int_sum_by-same (λ s. g s +ℤ a s) (λ s. pos (weight ps s)) es (λ s m. omega (arith, ints)),
      int_sum_by-pos (weight ps) es,
    )
