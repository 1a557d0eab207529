-- The pairs of a hull as sides.
use Rattle.std.proofs.Common.{◌≡◌, ℕ, ◌+◌, ◌<◌, ◌≤◌, List, [], ◌∷◌, ◌++◌, length, take, map, Contains, IsPermutation, ◌↔◌, refl, ap, ◌∙◌, arith, subst}
use Rattle.std.specs.List.{HoldsAt}
use Rattle.std.proofs.lemmas.List.{map-append, take_more, take_all}
use Rattle.std.proofs.lemmas.List.Sorted.{Contains-permutation, IsPermutation-sym}
use Rattle.exact_predicates.specs.Hull.{ring_pairs, IsHullPair}
use Rattle.exact_predicates.proofs.Rings.{length-ring}
use Rattle.lmt_network.proofs.Entries.{contains_map, map_contains}
use Rattle.dual_checker.specs.declared.half_edges.Side.{Side}
use Rattle.dual_checker.specs.HalfEdges.{side_of}

-- with the pair at one more place
pub map-ring_more : (hull : List ℕ) (k u v : ℕ) (sides : List Side) → k < length hull → HoldsAt (λ s. s ≡ (u, v)) (ring_pairs hull) k
    → sides ≡ map side_of (take k (ring_pairs hull)) → sides ++ side_of (u, v) ∷ [] ≡ map side_of (take (k + 1) (ring_pairs hull))
map-ring_more hull k u v sides inside pair h =
    let more = take_more (ring_pairs hull) k (u, v) (omega (arith, length-ring hull)) in
    rw (more, pair (u, v), map-append side_of (take k (ring_pairs hull)) ((u, v) ∷ []), h) refl

-- at all places
pub map-ring_all : (hull : List ℕ) (k : ℕ) (sides : List Side) → length hull ≤ k → sides ≡ map side_of (take k (ring_pairs hull)) → sides ≡ map side_of (ring_pairs hull)
map-ring_all hull k sides past h = h ∙ ap (map side_of) (take_all k (ring_pairs hull) (omega (arith, length-ring hull)))

-- the sides of a rim are the pairs of its hull
pub rim_has : (hull : List ℕ) (rim : List Side) (s : Side) → IsPermutation (map side_of (ring_pairs hull)) rim → Contains rim s ↔ IsHullPair hull s.from s.to
rim_has hull rim s p = (
  λ has.
      let (q, q_in, is) = map_contains side_of (ring_pairs hull) s (Contains-permutation rim (map side_of (ring_pairs hull)) s (IsPermutation-sym (map side_of (ring_pairs hull)) rim p) has) in
      subst (λ (x : ℕ × ℕ). Contains (ring_pairs hull) x) (ap (λ (x : Side). (x.from, x.to)) is) q_in,
  λ pair. Contains-permutation (map side_of (ring_pairs hull)) rim s p (contains_map side_of (ring_pairs hull) (s.from, s.to) pair),
)
