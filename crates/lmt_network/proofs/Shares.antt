-- Sums over the sides of a triangulation: they are the pairs of the hull, and each inner edge both ways.
use Rattle.std.proofs.Common.{◌≡◌, ℕ, List, [], ◌∷◌, ◌++◌, map, flat_map, ℤ, ◌+ℤ◌, arith, refl}
use Rattle.std.proofs.lemmas.Int.{ints}
use Rattle.exact_predicates.specs.declared.point.Point.{Point}
use Rattle.exact_predicates.specs.declared.tri.Tri.{Tri}
use Rattle.exact_predicates.specs.Hull.{IsHull, ring_pairs}
use Rattle.exact_predicates.specs.Triangulation.{IsTriangulation, sides}
use Rattle.exact_predicates.proofs.SidesCounted.{all_sides, all_sides_counted, inner_sides, turned}
use Rattle.lmt_network.specs.Prices.{Priced, int_sum_by, share, slack}
use Rattle.lmt_network.proofs.CountedSums.{sum_same_counts}
use Rattle.lmt_network.proofs.IntSums.{int_sum_by-append, int_sum_by-cons, int_sum_by-map, int_sum_by-plus}

-- a sum over all sides is one over the hull and over the inner edges
pub sum_sides : (f : ℕ × ℕ → ℤ) (ps : List Point) (hull : List ℕ) (tris : List Tri) → IsHull ps hull → IsTriangulation ps hull tris
    → int_sum_by f (flat_map sides tris) ≡ int_sum_by f (ring_pairs hull) +ℤ int_sum_by (λ s. f s +ℤ f (turned s)) (inner_sides hull tris)
sum_sides f ps hull tris h t =
    let ring = ring_pairs hull in
    let inner = inner_sides hull tris in
    omega (
      arith,
      ints,
      sum_same_counts f (flat_map sides tris) (all_sides hull tris) (λ x y. all_sides_counted ps hull tris x y h t),
      int_sum_by-append f ring (inner ++ map turned inner),
      int_sum_by-append f inner (map turned inner),
      int_sum_by-map f turned inner,
      int_sum_by-plus f (λ s. f (turned s)) inner,
    )

-- the slacks add up to the shares of all sides
pub sum_slacks : (ps : List Point) (hull : List ℕ) (prices : List Priced) (tris : List Tri)
    → int_sum_by (slack ps hull prices) tris ≡ int_sum_by (λ s. share ps hull prices s.0 s.1) (flat_map sides tris)
sum_slacks ps hull prices [] = refl
sum_slacks ps hull prices (t ∷ tris) =
    let f : ℕ × ℕ → ℤ = λ s. share ps hull prices s.0 s.1 in
    let rest = flat_map sides tris in
    omega (
      arith,
      ints,
      int_sum_by-cons (slack ps hull prices) t tris,
      int_sum_by-cons f (t.a, t.b) ((t.b, t.c) ∷ (t.c, t.a) ∷ rest),
      int_sum_by-cons f (t.b, t.c) ((t.c, t.a) ∷ rest),
      int_sum_by-cons f (t.c, t.a) rest,
      sum_slacks ps hull prices tris,
    )
