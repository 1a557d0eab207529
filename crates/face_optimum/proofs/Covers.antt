-- Triangles that cut all bounded faces are a triangulation.
use Rattle.std.proofs.Common.{◌≡◌, ◌≢◌, ◌⊎◌, ℕ, ◌+◌, ◌-◌, ◌%◌, ◌<◌, ◌≤◌, not, List, [], ◌∷◌, length, All, AllPairs, Any, sum_by, arith, refl, ap, sym, ◌∙◌, subst, ⊎_elim, inl, inr}
use Rattle.std.proofs.lemmas.Bool.{cases_eq, cases_lt}
use Rattle.std.proofs.lemmas.List.Filters.{sum_by-filter_both}
use Rattle.std.proofs.lemmas.List.Sums.{get_or-le-sum_by}
use Rattle.exact_predicates.specs.declared.edge.Edge.{Edge}
use Rattle.exact_predicates.specs.declared.point.Point.{Point}
use Rattle.exact_predicates.specs.declared.tri.Tri.{Tri}
use Rattle.exact_predicates.specs.Candidates.{HasEdge}
use Rattle.exact_predicates.specs.Hull.{IsHull, IsHullPair, ring_pairs}
use Rattle.exact_predicates.specs.Triangulation.{IsCorner, IsEmpty, IsTriangulation, hit}
use Rattle.exact_predicates.proofs.Elements.{sum_by-some}
use Rattle.exact_predicates.proofs.Equalities.{HasEdge-comm}
use Rattle.exact_predicates.proofs.HullPairs.{pair_none, pair_once}
use Rattle.exact_predicates.proofs.Pairs.{pair_or_not}
use Rattle.lmt_network.proofs.Filters.{count_from, count_to}
use Rattle.skeleton_faces.specs.Faces.{AreFaces, HasRoundSide, round_at}
use Rattle.skeleton_faces.specs.Walks.{AreJoined}
use Rattle.face_optimum.specs.Decomposition.{IsCut, IsHullLeftOut, bounded_faces, is_outer}
use Rattle.face_optimum.specs.Parts.{IsTiling, face_sides}
use Rattle.face_optimum.specs.Places.{face_at}
use Rattle.face_optimum.proofs.Rounds.{both_directions, pair_of_side, side_at_least_once, side_at_most_once, side_of_pair}
use Rattle.price_ascent.proofs.OnceEach.{one_direction}

-- the cycle left out goes once round the hull the other way
outer_sides : (hull : List ℕ) (cycles : List (List ℕ)) (out : IsHullLeftOut hull cycles) (x y : ℕ) → AllPairs (λ u v. u ≢ v) hull
    → sum_by (hit x y) (ring_pairs out.outer) ≡ sum_by (hit y x) (ring_pairs hull)
outer_sides hull cycles out x y distinct =
    ⊎_elim
    (λ (p : IsHullPair hull y x). out.rim.once y x p ∙ sym (pair_once hull y x distinct p))
    (λ (none : ¬ IsHullPair hull y x). ⊎_elim
    (λ (l : sum_by (hit x y) (ring_pairs out.outer) < 1). omega (arith, l, pair_none hull y x none))
    (λ (l : 1 ≤ sum_by (hit x y) (ring_pairs out.outer)). absurd (none (out.rim.only y x (count_to (ring_pairs out.outer) x y l))))
    (cases_lt (sum_by (hit x y) (ring_pairs out.outer)) 1))
    (pair_or_not hull y x)

-- the bounded faces and the hull the other way are all cycles
bounded_sides : (hull : List ℕ) (cycles faces : List (List ℕ)) (x y : ℕ) → faces ≡ bounded_faces hull cycles → AllPairs (λ u v. u ≢ v) hull → IsHullLeftOut hull cycles
    → face_sides faces x y + sum_by (hit y x) (ring_pairs hull) ≡ face_sides cycles x y
bounded_sides hull cycles faces x y is distinct out =
    let f : List ℕ → ℕ = λ c. sum_by (hit x y) (ring_pairs c) in
    omega (
      arith,
      ap (λ fs. face_sides fs x y) is,
      sum_by-filter_both (is_outer hull) (λ c. not (is_outer hull c)) (λ c. refl) f cycles,
      ap (sum_by f) out.one,
      outer_sides hull cycles out x y distinct,
    )

-- a walk from a point to another one begins with an edge
first_step : (es : List Edge) (u v : ℕ) → AreJoined es u v → u ≢ v → (w : ℕ) × HasEdge es u w
first_step es u v ([], there) apart = absurd (apart there)
first_step es u v (w ∷ walk, there) apart = (w, there.0)

-- of the two sides of an edge of the hull one is in no bounded face
pub not_outside : (ps : List Point) (hull : List ℕ) (skeleton : List Edge) (cycles faces : List (List ℕ)) (most : ℕ)
    → IsHull ps hull → AreFaces ps skeleton cycles → faces ≡ bounded_faces hull cycles → IsCut ps hull skeleton cycles most → ((u v : ℕ) → IsHullPair hull u v → HasEdge skeleton u v)
    → (u v f g : ℕ) → f < length faces → g < length faces → IsHullPair hull u v ⊎ IsHullPair hull v u
    → HasRoundSide (face_at faces f) u v → ¬ HasRoundSide (face_at faces g) v u
not_outside ps hull skeleton cycles faces most h are is d on_hull u v f g f_in g_in pair here there =
    ⊎_elim
    (λ (p : IsHullPair hull u v). outside u v g g_in p there)
    (λ (p : IsHullPair hull v u). outside v u f f_in p here)
    pair
  where
    outside : (x y k : ℕ) → k < length faces → IsHullPair hull x y → ¬ HasRoundSide (face_at faces k) y x
    outside x y k k_in p side =
        let f : List ℕ → ℕ = λ c. sum_by (hit y x) (ring_pairs c) in
        let some = count_from (ring_pairs (face_at faces k)) y x (pair_of_side (face_at faces k) y x side) in
        omega (
          arith,
          some,
          get_or-le-sum_by f faces k [] k_in,
          bounded_sides hull cycles faces y x is h.distinct d.outer,
          side_at_most_once ps skeleton cycles are y x,
          pair_once hull x y h.distinct p,
        )

module _ (ps : List Point) (hull : List ℕ) (skeleton : List Edge) (cycles faces : List (List ℕ)) (most : ℕ)
    (h : IsHull ps hull) (are : AreFaces ps skeleton cycles) (is : faces ≡ bounded_faces hull cycles) (d : IsCut ps hull skeleton cycles most)
    (on_hull : (u v : ℕ) → IsHullPair hull u v → HasEdge skeleton u v) where
  -- the two sides of an edge of the hull
  pub inner_of_pair : (u v : ℕ) → IsHullPair hull u v → face_sides faces u v ≡ 1
  inner_of_pair u v p =
      omega (
        arith,
        bounded_sides hull cycles faces u v is h.distinct d.outer,
        side_at_least_once ps skeleton cycles are u v (on_hull u v p),
        side_at_most_once ps skeleton cycles are u v,
        pair_none hull v u (one_direction ps hull u v h p),
      )

  outer_of_pair : (u v : ℕ) → IsHullPair hull u v → face_sides faces v u ≡ 0
  outer_of_pair u v p =
      omega (
        arith,
        bounded_sides hull cycles faces v u is h.distinct d.outer,
        side_at_most_once ps skeleton cycles are v u,
        pair_once hull u v h.distinct p,
      )

  -- each side of the skeleton that is not left out is in a bounded face once
  pub inner_side : (u v : ℕ) → HasEdge skeleton u v → ¬ IsHullPair hull v u → face_sides faces u v ≡ 1
  inner_side u v has none =
      omega (
        arith,
        bounded_sides hull cycles faces u v is h.distinct d.outer,
        side_at_least_once ps skeleton cycles are u v has,
        side_at_most_once ps skeleton cycles are u v,
        pair_none hull v u none,
      )

  module _ (P : Tri → Type 0) (tris : List Tri) (tiling : IsTiling P skeleton faces tris) where
    -- a point with a side in a bounded face is a corner
    corner_at : (u v x k : ℕ) → 1 ≤ face_sides faces u v → ((c : List ℕ) (j : ℕ) → round_at c j ≡ u → round_at c (j + 1) ≡ v → round_at c (j + k) ≡ x)
        → Any (λ t. IsCorner t x) tris
    corner_at u v x k some at =
        let (i, c, i_in, at_i, more) = sum_by-some (λ c. sum_by (hit u v) (ring_pairs c)) faces some in
        let (j, j_in, from, to) = side_of_pair c u v (count_to (ring_pairs c) u v more) in
        let p_in : (j + k) % length c < length c = omega arith in
        subst (λ (z : ℕ). Any (λ t. IsCorner t z) tris) (at c j from to) (tiling.corners c ((j + k) % length c) (i, i_in, at_i) p_in)

    all_corners : (x : ℕ) → x < length ps → Any (λ t. IsCorner t x) tris
    all_corners x x_in =
        let three = h.three in
        let (w, has) = neighbour in
        let there = inner_or_outer w has in
        ⊎_elim
        (λ (forth : 1 ≤ face_sides faces x w). corner_at x w x 0 forth (λ c j from to. let e : j + 0 ≡ j = omega arith in ap (round_at c) e ∙ from))
        (λ (back : 1 ≤ face_sides faces w x). corner_at w x x 1 back (λ c j from to. to))
        there
      where
        other : (y : ℕ) × (y < length ps) × (x ≢ y)
        other =
            ⊎_elim
            (λ (e : x ≡ 0). (1, several, λ f. absurd (omega arith)))
            (λ (ne : x ≢ 0). (0, omega arith, ne))
            (cases_eq x 0)
          where
            several : 1 < length ps
            several =
                let three = h.three in
                let i0 = h.within 0 0 (omega arith) in
                let i1 = h.within 1 0 (omega arith) in
                let far = h.distinct 0 1 0 (omega arith) (omega arith) in
                let first = h.first in
                omega arith

        neighbour : (w : ℕ) × HasEdge skeleton x w
        neighbour = let (y, y_in, far) = other in first_step skeleton x y (d.connected x y x_in y_in) far

        inner_or_outer : (w : ℕ) → HasEdge skeleton x w → (1 ≤ face_sides faces x w) ⊎ (1 ≤ face_sides faces w x)
        inner_or_outer w has =
            ⊎_elim
            (λ (p : IsHullPair hull w x). let one = inner_of_pair w x p in inr (omega arith))
            (λ (none : ¬ IsHullPair hull w x). let one = inner_side x w has none in inl (omega arith))
            (pair_or_not hull w x)

    pub covers : All (IsEmpty ps) tris → IsTriangulation ps hull tris
    covers empty =
        record {
          empty = empty;
          count = omega (arith, tiling.count, ap (λ fs. sum_by (λ c. length c - 2) fs) is, d.count);
          hull_once = λ u v p. tiling.exact u v (on_hull u v p) ∙ inner_of_pair u v p;
          none_outside = λ u v p. tiling.exact v u (HasEdge-comm skeleton u v (on_hull u v p)) ∙ outer_of_pair u v p;
          balanced = λ u v apart none none_back. omega (
            arith,
            tiling.balanced u v,
            bounded_sides hull cycles faces u v is h.distinct d.outer,
            bounded_sides hull cycles faces v u is h.distinct d.outer,
            both_directions ps skeleton cycles are u v,
            pair_none hull u v none,
            pair_none hull v u none_back,
          );
          corners = all_corners;
        }
