-- What is tested of half-edges decides whether no flip makes an edge shorter.
use Rattle.std.proofs.Common.{ℕ, List, get_or, filter, flat_map, Any, All, Contains, IsPermutation, refl, sym, subst, ◌∙◌, arith, inl, inr}
use Rattle.std.specs.List.{list_any}
use Rattle.std.proofs.lemmas.Bool.{cases_Bool, cases_lt, false≢true}
use Rattle.std.proofs.lemmas.List.Elements.{All-contains, Contains-get_or}
use Rattle.exact_predicates.specs.declared.point.Point.{Point}
use Rattle.exact_predicates.specs.declared.tri.Tri.{Tri}
use Rattle.exact_predicates.specs.Hull.{ring_pairs}
use Rattle.exact_predicates.specs.Triangulation.{is_side, is_inner, sides, HasCorners}
use Rattle.exact_predicates.specs.Flip.{IsMinimalIn, IsFlipMinimal}
use Rattle.exact_predicates.proofs.Pairs.{is_pair_decides, is_inner_decides, is_side_decides}
use Rattle.dual_checker.specs.declared.half_edges.HalfEdge.{HalfEdge}
use Rattle.dual_checker.specs.declared.half_edges.Side.{Side}
use Rattle.dual_checker.specs.HalfEdges.{half_edge, half_edges, is_on, side_of, reversed, HasMinimal, IsMinimalAt}
use Rattle.dual_checker.proofs.Halving.{Contains-corners, corners-Contains, Contains-filter, filter-Contains, side_halved, halved_side}
use Rattle.dual_checker.proofs.Triangulations.{AreOf, in_rim, pair_in}

-- a half-edge of a side
on_side : (halves : List HalfEdge) (u v w : ℕ) → Contains halves (half_edge u v w) → Contains (filter (is_on (side_of (u, v))) halves) (half_edge u v w)
on_side halves u v w has = Contains-filter (is_on (side_of (u, v))) halves (half_edge u v w) has ((is_side_decides u v u v).1 (refl, refl))

-- a side that is locally minimal in the triangles is so among the half-edges
minimal_found : (ps : List Point) (tris : List Tri) (halves : List HalfEdge) (s : Side) → IsPermutation (half_edges tris) halves → IsMinimalIn ps tris s.from s.to
    → HasMinimal ps s (filter (is_on s) halves) (filter (is_on (reversed s)) halves)
minimal_found ps tris halves s p m =
    let (i, i_in, at_i) = on_side halves s.from s.to m.a (Contains-corners tris halves s.from s.to m.a p m.on_left) in
    let (j, j_in, at_j) = on_side halves s.to s.from m.b (Contains-corners tris halves s.to s.from m.b p m.on_right) in
    (i, half_edge s.from s.to m.a, i_in, at_i, (j, half_edge s.to s.from m.b, j_in, at_j, m.minimal))

-- and the other way round
with_apex : (tris : List Tri) (halves : List HalfEdge) (s : Side) (h : HalfEdge) → IsPermutation (half_edges tris) halves → Contains (filter (is_on s) halves) h
    → Any (λ t. HasCorners t s.from s.to h.apex) tris
with_apex tris halves s h p has =
    let (there, on) = filter-Contains (is_on s) halves h has in
    let same = (is_side_decides s.from s.to h.side.from h.side.to).0 on in
    subst (λ (u : ℕ). Any (λ t. HasCorners t u s.to h.apex) tris) same.0
    (subst (λ (v : ℕ). Any (λ t. HasCorners t h.side.from v h.apex) tris) same.1 (corners-Contains tris halves h p there))

minimal_from : (ps : List Point) (tris : List Tri) (halves : List HalfEdge) (s : Side) → IsPermutation (half_edges tris) halves
    → HasMinimal ps s (filter (is_on s) halves) (filter (is_on (reversed s)) halves) → IsMinimalIn ps tris s.from s.to
minimal_from ps tris halves s p (i, l, i_in, at_i, (j, r, j_in, at_j, m)) = record {
  a = l.apex;
  b = r.apex;
  on_left = with_apex tris halves s l p (i, i_in, at_i);
  on_right = with_apex tris halves (reversed s) r p (j, j_in, at_j);
  minimal = m;
}

pub IsFlipMinimal-tests : (ps : List Point) (hull : List ℕ) (tris : List Tri) (halves : List HalfEdge) (rim : List Side) → AreOf hull tris halves rim
    → All (λ h. IsMinimalAt ps halves rim h.side) halves → IsFlipMinimal ps hull tris
IsFlipMinimal-tests ps hull tris halves rim are tests = λ k d inside. each (get_or inner k d) (Contains-get_or inner k d inside) where
  inner : List (ℕ × ℕ)
  inner = filter (is_inner hull) (flat_map sides tris)

  each : (e : ℕ × ℕ) → Contains (filter (is_inner hull) (flat_map sides tris)) e → IsMinimalIn ps tris e.0 e.1
  each e has =
      let (there, is) = filter-Contains (is_inner hull) (flat_map sides tris) e has in
      let up = (is_inner_decides hull e.0 e.1).0 is in
      let (h, h_in, same) = side_halved tris halves e are.halves_are there in
      let at : IsMinimalAt ps halves rim (side_of e) = subst (λ (s : Side). IsMinimalAt ps halves rim s) same (All-contains (λ (g : HalfEdge). IsMinimalAt ps halves rim g.side) halves h tests h_in) in
      elim at [
        | inl down ↦ let l = up.0 in absurd (omega arith)
        | inr other ↦ elim other [ inl on_rim ↦ absurd (up.1 (pair_in are (side_of e) on_rim)) | inr minimal ↦ minimal_from ps tris halves (side_of e) are.halves_are minimal ]
      ]

pub tests-IsFlipMinimal : (ps : List Point) (hull : List ℕ) (tris : List Tri) (halves : List HalfEdge) (rim : List Side) → AreOf hull tris halves rim
    → IsFlipMinimal ps hull tris → All (λ h. IsMinimalAt ps halves rim h.side) halves
tests-IsFlipMinimal ps hull tris halves rim are minimal = λ k d inside. each (get_or halves k d) (Contains-get_or halves k d inside) where
  each : (h : HalfEdge) → Contains halves h → IsMinimalAt ps halves rim h.side
  each h has = elim (cases_Bool (is_inner hull (h.side.from, h.side.to))) [
    | inl inner ↦ inr (inr (minimal_found ps tris halves h.side are.halves_are
        (All-contains (λ (e : ℕ × ℕ). IsMinimalIn ps tris e.0 e.1) (filter (is_inner hull) (flat_map sides tris)) (h.side.from, h.side.to) minimal
        (Contains-filter (is_inner hull) (flat_map sides tris) (h.side.from, h.side.to) (halved_side tris halves h are.halves_are has) inner))))
    | inr outer ↦ elim (cases_lt h.side.from h.side.to) [
      | inl up ↦ elim (cases_Bool (list_any (is_side h.side.from h.side.to) (ring_pairs hull))) [
        | inl on_rim ↦ inr (inl (in_rim are h.side ((is_pair_decides hull h.side.from h.side.to).0 on_rim)))
        | inr off ↦ absurd (false≢true (sym outer ∙ (is_inner_decides hull h.side.from h.side.to).1 (up, λ pair. false≢true (sym off ∙ (is_pair_decides hull h.side.from h.side.to).1 pair))))
      ]
      | inr down ↦ inl down
    ]
  ]
