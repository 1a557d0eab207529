-- The sides of a triangulation by their edges: the pairs of the hull, and each inner edge both ways. So how many edges there are.
use Rattle.std.proofs.Common.{◌≡◌, ◌⊎◌, ℕ, ◌+◌, ◌*◌, ◌<◌, ◌≤◌, List, [], ◌∷◌, ◌++◌, length, get_or, map, filter, flat_map, sum_by, arith, ap, sym, ◌∙◌, refl, subst, ⊎_elim, inl}
use Rattle.std.specs.List.{remove}
use Rattle.std.proofs.lemmas.Bool.{cases_Bool, cases_order}
use Rattle.std.proofs.lemmas.List.{length-append, length-map}
use Rattle.std.proofs.lemmas.List.Sorted.{IsPermutation-remove, length_permutation, sum_by_popped}
use Rattle.std.proofs.lemmas.List.Sums.{get_or-le-sum_by, sum_by-append, sum_by-cons}
use Rattle.exact_predicates.specs.declared.point.Point.{Point}
use Rattle.exact_predicates.specs.declared.tri.Tri.{Tri}
use Rattle.exact_predicates.specs.Hull.{IsHull, IsHullPair, ring_pairs}
use Rattle.exact_predicates.specs.Triangulation.{IsTriangulation, edges, hit, is_inner, side_count, sides}
use Rattle.exact_predicates.proofs.Corners.{corners_differ, turned_corners}
use Rattle.exact_predicates.proofs.Counts.{hit-some}
use Rattle.exact_predicates.proofs.EdgeCounts.{inner_all, inner_none, not_inner}
use Rattle.exact_predicates.proofs.Elements.{sum_by-none, sum_by-some}
use Rattle.exact_predicates.proofs.HullPairs.{pair_none, pair_once}
use Rattle.exact_predicates.proofs.Pairs.{hit_none, hit_same, hit_turned, is_inner_decides, pair_or_not}
use Rattle.exact_predicates.proofs.Rings.{length-ring}
use Rattle.exact_predicates.proofs.Sides.{sum_by-flat_map, sum_by-sides}

-- how often x to y is in a list
abbrev pub count : List (ℕ × ℕ) → ℕ → ℕ → ℕ
count xs x y = sum_by (hit x y) xs

-- lists with the same pairs, each as often, are as long
pub length-same_counts : (xs ys : List (ℕ × ℕ)) → ((x y : ℕ) → count xs x y ≡ count ys x y) → length xs ≡ length ys
length-same_counts [] [] same = refl
length-same_counts [] (s ∷ ys) same =
    absurd (omega (arith, same s.0 s.1, sum_by-cons (hit s.0 s.1) s ys, hit_same s.0 s.1))
length-same_counts (s ∷ xs) ys same =
    let some : 1 ≤ count ys s.0 s.1 = omega (arith, same s.0 s.1, sum_by-cons (hit s.0 s.1) s xs, hit_same s.0 s.1) in
    let (k, p, k_in, at_k, is_it) = sum_by-some (hit s.0 s.1) ys some in
    let e = hit-some s.0 s.1 p.0 p.1 is_it in
    let moved = IsPermutation-remove ys k p k_in (sym at_k) in
    let less = length-same_counts xs (remove ys k)
    (λ x y.
    let here : hit x y p ≡ hit x y s = ap (λ n. hit x y (n, p.1)) e.0 ∙ ap (λ n. hit x y (s.0, n)) e.1 in
    omega (arith, same x y, sum_by-cons (hit x y) s xs, sum_by_popped (hit x y) p ys (remove ys k) moved, here)) in
    omega (arith, less, length_permutation ys (p ∷ remove ys k) moved)

-- the inner sides that go up
abbrev pub inner_sides : List ℕ → List Tri → List (ℕ × ℕ)
inner_sides hull tris = filter (is_inner hull) (flat_map sides tris)

-- a side turned round
abbrev pub turned : ℕ × ℕ → ℕ × ℕ
turned s = (s.1, s.0)

pub count_turned : (xs : List (ℕ × ℕ)) (x y : ℕ) → count (map turned xs) x y ≡ count xs y x
count_turned [] x y = refl
count_turned (s ∷ xs) x y =
    omega (arith, sum_by-cons (hit x y) (s.1, s.0) (map turned xs), sum_by-cons (hit y x) s xs, count_turned xs x y, hit_turned y x s.0 s.1)

-- no side ends where it begins
pub no_loops : (tris : List Tri) (x : ℕ) → side_count tris x x ≡ 0
no_loops tris x =
    sum_by-flat_map (hit x x) sides tris
    ∙ sum_by-none (λ t. sum_by (hit x x) (sides t)) tris (λ k d l. none (get_or tris k d))
  where
    apart : (u v : ℕ) → ¬ (u ≡ v) → hit x x (u, v) ≡ 0
    apart u v ne = hit_none x x u v (λ e. ne (e.0 ∙ sym e.1))

    none : (t : Tri) → sum_by (hit x x) (sides t) ≡ 0
    none t =
        let abc = inl (refl, refl, refl) in
        let bca = turned_corners t t.a t.b t.c abc in
        omega (
          arith,
          sum_by-sides (hit x x) t t.a t.b t.c abc,
          apart t.a t.b (corners_differ t t.a t.b t.c abc),
          apart t.b t.c (corners_differ t t.b t.c t.a bca),
          apart t.c t.a (corners_differ t t.c t.a t.b (turned_corners t t.b t.c t.a bca)),
        )

inner_at_most : (hull : List ℕ) (tris : List Tri) (x y : ℕ) → count (inner_sides hull tris) x y ≤ side_count tris x y
inner_at_most hull tris x y =
    ⊎_elim
    (λ e. omega (arith, inner_all hull tris x y e))
    (λ e. omega (arith, inner_none hull tris x y e))
    (cases_Bool (is_inner hull (x, y)))

-- all sides, by their edges
abbrev pub all_sides : List ℕ → List Tri → List (ℕ × ℕ)
all_sides hull tris = ring_pairs hull ++ (inner_sides hull tris ++ map turned (inner_sides hull tris))

sides_counted : (ps : List Point) (hull : List ℕ) (tris : List Tri) (x y : ℕ) → IsHull ps hull → IsTriangulation ps hull tris
    → side_count tris x y ≡ count (ring_pairs hull) x y + (count (inner_sides hull tris) x y + count (inner_sides hull tris) y x)
sides_counted ps hull tris x y h t =
    let forth = inner_at_most hull tris x y in
    let back = inner_at_most hull tris y x in
    ⊎_elim
    (λ (p : IsHullPair hull x y).
    omega (arith, back, t.hull_once x y p, t.none_outside x y p, pair_once hull x y h.distinct p, inner_none hull tris x y (not_inner hull x y (λ k. k.1 p))))
    (λ none. ⊎_elim
    (λ (p : IsHullPair hull y x).
    omega (arith, forth, t.none_outside y x p, pair_none hull x y none, inner_none hull tris y x (not_inner hull y x (λ k. k.1 p))))
    (λ none_back. neither none none_back (cases_order x y))
    (pair_or_not hull y x))
    (pair_or_not hull x y)
  where
    neither : ¬ IsHullPair hull x y → ¬ IsHullPair hull y x → (x ≡ y) ⊎ ((x < y) ⊎ (y < x))
        → side_count tris x y ≡ count (ring_pairs hull) x y + (count (inner_sides hull tris) x y + count (inner_sides hull tris) y x)
    neither none none_back o =
        ⊎_elim
        (λ e.
        let loop : side_count tris x y ≡ 0 = subst (λ z. side_count tris x z ≡ 0) e (no_loops tris x) in
        let turn : side_count tris y x ≡ 0 = subst (λ z. side_count tris z x ≡ 0) e (no_loops tris x) in
        omega (arith, loop, turn, pair_none hull x y none, inner_at_most hull tris x y, inner_at_most hull tris y x))
        (λ d. ⊎_elim
        (λ (l : x < y). omega (
          arith,
          pair_none hull x y none,
          inner_all hull tris x y ((is_inner_decides hull x y).1 (l, none)),
          inner_none hull tris y x (not_inner hull y x (λ k. omega (arith, k.0, l))),
        ))
        (λ (l : y < x). omega (
          arith,
          pair_none hull x y none,
          t.balanced x y (λ e. absurd (omega arith)) none none_back,
          inner_all hull tris y x ((is_inner_decides hull y x).1 (l, none_back)),
          inner_none hull tris x y (not_inner hull x y (λ k. omega (arith, k.0, l))),
        ))
        d)
        o

-- the sides and their edges both ways are the same pairs, each as often
pub all_sides_counted : (ps : List Point) (hull : List ℕ) (tris : List Tri) (x y : ℕ) → IsHull ps hull → IsTriangulation ps hull tris
    → count (flat_map sides tris) x y ≡ count (all_sides hull tris) x y
all_sides_counted ps hull tris x y h t =
    let inner = inner_sides hull tris in
    omega (
      arith,
      sides_counted ps hull tris x y h t,
      sum_by-append (hit x y) (ring_pairs hull) (inner ++ map turned inner),
      sum_by-append (hit x y) inner (map turned inner),
      count_turned inner x y,
    )

length-sides : (tris : List Tri) → length (flat_map sides tris) ≡ 3 * length tris
length-sides [] = refl
length-sides (t ∷ tris) = omega (arith, length-sides tris)

-- A triangulation of n points with h of them on the hull has 3n - 3 - h edges.
pub length-edges : (ps : List Point) (hull : List ℕ) (tris : List Tri) → IsHull ps hull → IsTriangulation ps hull tris
    → length (edges hull tris) + length hull + 3 ≡ 3 * length ps
length-edges ps hull tris h t =
    let ring = ring_pairs hull in
    let inner = inner_sides hull tris in
    omega (
      arith,
      t.count,
      length-same_counts (flat_map sides tris) (all_sides hull tris) (λ x y. all_sides_counted ps hull tris x y h t),
      length-sides tris,
      length-append ring (inner ++ map turned inner),
      length-append inner (map turned inner),
      length-map inner turned,
      length-append ring inner,
      length-ring hull,
    )
