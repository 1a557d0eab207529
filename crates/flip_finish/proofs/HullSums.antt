-- With the outer sides each side of a triangulation is met by its reverse.
use Rattle.std.proofs.Common.{◌≡◌, ◌≢◌, ℕ, ◌+◌, List, sum_by, arith, ⊎_elim}
use Rattle.std.specs.List.{list_any}
use Rattle.std.proofs.lemmas.Bool.{both_ways, cases_Bool}
use Rattle.std.proofs.lemmas.List.Sums.{sum_by-append}
use Rattle.exact_predicates.specs.declared.point.Point.{Point}
use Rattle.exact_predicates.specs.declared.tri.Tri.{Tri}
use Rattle.exact_predicates.specs.Hull.{IsHull, IsHullPair, ring_pairs}
use Rattle.exact_predicates.specs.Triangulation.{IsTriangulation, hit, is_side, side_count}
use Rattle.exact_predicates.proofs.HullPairs.{pair_none, pair_once}
use Rattle.exact_predicates.proofs.Pairs.{is_pair_decides}
use Rattle.flip_finish.specs.Halves.{all_sides, numbered_sides, outer_sides}
use Rattle.flip_finish.specs.Slotted.{IsMet}
use Rattle.flip_finish.proofs.SideSums.{any_face, weight, weight_numbered, weight_outer}

-- with the outer sides each side occurs as often one way as the other
pub sides_met : (ps : List Point) (hull : List ℕ) (tris : List Tri) (x y : ℕ) → IsHull ps hull → IsTriangulation ps hull tris → x ≢ y → IsMet hull tris x y
sides_met ps hull tris x y h t ne =
    record {
      met = ⊎_elim
          (λ e.
          let forth = (is_pair_decides hull x y).0 e in
          let no_back : ¬ IsHullPair hull y x = λ back. absurd (omega (arith, t.hull_once y x back, t.none_outside x y forth)) in
          omega (arith, t.hull_once x y forth, t.none_outside x y forth, pair_once hull x y h.distinct forth, pair_none hull y x no_back))
          (λ e. let no_forth : ¬ IsHullPair hull x y = λ p. both_ways _ e ((is_pair_decides hull x y).1 p) in
          ⊎_elim
          (λ f.
          let back = (is_pair_decides hull y x).0 f in
          omega (arith, t.hull_once y x back, t.none_outside y x back, pair_once hull y x h.distinct back, pair_none hull x y no_forth))
          (λ f.
          let no_back : ¬ IsHullPair hull y x = λ p. both_ways _ f ((is_pair_decides hull y x).1 p) in
          omega (arith, t.balanced x y ne no_forth no_back, pair_none hull x y no_forth, pair_none hull y x no_back))
          (cases_Bool (list_any (is_side y x) (ring_pairs hull))))
          (cases_Bool (list_any (is_side x y) (ring_pairs hull)));
    }

-- how often x to y is among all sides
pub weight_all : (hull : List ℕ) (tris : List Tri) (x y : ℕ)
    → sum_by (weight any_face x y) (all_sides hull tris) ≡ side_count tris x y + sum_by (hit y x) (ring_pairs hull)
weight_all hull tris x y =
    omega (
      arith,
      sum_by-append (weight any_face x y) (numbered_sides 0 tris) (outer_sides (ring_pairs hull)),
      weight_numbered x y 0 tris,
      weight_outer x y (ring_pairs hull),
    )
