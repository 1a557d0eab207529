-- How often an edge occurs in a triangulation.
use Rattle.std.proofs.Common.{◌≡◌, ℕ, ◌+◌, ◌<◌, Bool, true, false, cond, List, [], ◌∷◌, sum_by, filter, flat_map, arith, ap, sym, ◌∙◌, refl, ⊎_elim}
use Rattle.std.specs.List.{list_any}
use Rattle.std.proofs.lemmas.Bool.{both_ways, cases_Bool, cases_lt, cond-false, cond-true}
use Rattle.std.proofs.lemmas.List.Sums.{sum_by-append, sum_by-cons}
use Rattle.exact_predicates.specs.declared.point.Point.{Point}
use Rattle.exact_predicates.specs.declared.tri.Tri.{Tri}
use Rattle.exact_predicates.specs.Hull.{IsHull, IsHullPair, ring_pairs}
use Rattle.exact_predicates.specs.Triangulation.{IsTriangulation, edges, hit, is_inner, is_side, side_count, sides}
use Rattle.exact_predicates.proofs.Counts.{hit-some}
use Rattle.exact_predicates.proofs.Elements.{sum_by-none}
use Rattle.exact_predicates.proofs.HullPairs.{pair_none, pair_once}
use Rattle.exact_predicates.proofs.Pairs.{is_inner_decides, is_pair_decides}
use Rattle.exact_predicates.proofs.Sides.{sum_by-filter}

either : (b : Bool) → cond {A = ℕ} b 0 0 ≡ 0
either true = refl
either false = refl

-- a side that does not pass is not counted
uncounted : (hull : List ℕ) (x y : ℕ) → is_inner hull (x, y) ≡ false → (s : ℕ × ℕ) → cond (is_inner hull s) (hit x y s) 0 ≡ 0
uncounted hull x y out s =
    ⊎_elim
    (λ l. let n : hit x y s ≡ 0 = omega arith in ap (λ k. cond (is_inner hull s) k 0) n ∙ either (is_inner hull s))
    (λ l.
    let e = hit-some x y s.0 s.1 l in
    cond-false (is_inner hull s) (hit x y s) 0 (ap (λ n. is_inner hull (n, s.1)) e.0 ∙ (ap (λ n. is_inner hull (x, n)) e.1 ∙ out)))
    (cases_lt (hit x y s) 1)

-- and one that does is
counted : (hull : List ℕ) (x y : ℕ) → is_inner hull (x, y) ≡ true → (s : ℕ × ℕ) → cond (is_inner hull s) (hit x y s) 0 ≡ hit x y s
counted hull x y inner s =
    ⊎_elim
    (λ l. let n : hit x y s ≡ 0 = omega arith in ap (λ k. cond (is_inner hull s) k 0) n ∙ (either (is_inner hull s) ∙ sym n))
    (λ l.
    let e = hit-some x y s.0 s.1 l in
    cond-true (is_inner hull s) (hit x y s) 0 (ap (λ n. is_inner hull (n, s.1)) e.0 ∙ (ap (λ n. is_inner hull (x, n)) e.1 ∙ inner)))
    (cases_lt (hit x y s) 1)

-- so how often a side is inner
pub inner_none : (hull : List ℕ) (tris : List Tri) (x y : ℕ) → is_inner hull (x, y) ≡ false → sum_by (hit x y) (filter (is_inner hull) (flat_map sides tris)) ≡ 0
inner_none hull tris x y out =
    sum_by-filter (hit x y) (is_inner hull) (flat_map sides tris)
    ∙ sum_by-none (λ s. cond (is_inner hull s) (hit x y s) 0) (flat_map sides tris) (λ k d l. uncounted hull x y out _)

pub inner_all : (hull : List ℕ) (tris : List Tri) (x y : ℕ) → is_inner hull (x, y) ≡ true → sum_by (hit x y) (filter (is_inner hull) (flat_map sides tris)) ≡ side_count tris x y
inner_all hull tris x y inner = sum_by-filter (hit x y) (is_inner hull) (flat_map sides tris) ∙ all (flat_map sides tris)
  where
    all : (xs : List (ℕ × ℕ)) → sum_by (λ s. cond (is_inner hull s) (hit x y s) 0) xs ≡ sum_by (hit x y) xs
    all [] = refl
    all (s ∷ xs) =
        omega (arith, sum_by-cons (λ s. cond (is_inner hull s) (hit x y s) 0) s xs, sum_by-cons (hit x y) s xs, counted hull x y inner s, all xs)

pub not_inner : (hull : List ℕ) (x y : ℕ) → ¬ ((x < y) × (¬ IsHullPair hull x y)) → is_inner hull (x, y) ≡ false
not_inner hull x y h = ⊎_elim (λ e. absurd (h ((is_inner_decides hull x y).0 e))) (λ e. e) (cases_Bool (is_inner hull (x, y)))

-- an edge occurs as often as its side that goes up, and the outer side of the hull
pub edge_count-sides : (ps : List Point) (hull : List ℕ) (tris : List Tri) (x y : ℕ) → IsHull ps hull → IsTriangulation ps hull tris → x < y
    → side_count tris x y + sum_by (hit y x) (ring_pairs hull) ≡ sum_by (hit x y) (edges hull tris) + sum_by (hit y x) (edges hull tris)
edge_count-sides ps hull tris x y h t up =
    let forth = sum_by-append (hit x y) (ring_pairs hull) (filter (is_inner hull) (flat_map sides tris)) in
    let back = sum_by-append (hit y x) (ring_pairs hull) (filter (is_inner hull) (flat_map sides tris)) in
    let back_none = inner_none hull tris y x (not_inner hull y x (λ k. absurd (omega (arith, k.0, up)))) in
    ⊎_elim
    (λ e.
    let pair = (is_pair_decides hull x y).0 e in
    omega (
      arith,
      forth,
      back,
      back_none,
      inner_none hull tris x y (not_inner hull x y (λ k. k.1 pair)),
      pair_once hull x y h.distinct pair,
      t.hull_once x y pair,
    ))
    (λ e.
    let no_pair : ¬ IsHullPair hull x y = λ p. both_ways _ e ((is_pair_decides hull x y).1 p) in
    omega (
      arith,
      forth,
      back,
      back_none,
      inner_all hull tris x y ((is_inner_decides hull x y).1 (up, no_pair)),
      pair_none hull x y no_pair,
    ))
    (cases_Bool (list_any (is_side x y) (ring_pairs hull)))
