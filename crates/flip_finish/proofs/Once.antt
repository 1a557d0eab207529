-- A directed side of a triangulation is there at most once, since the hull goes back over each cut just once.
use Rattle.std.proofs.Common.{◌≡◌, ◌≢◌, ℕ, zero, suc, ◌+◌, ◌<◌, ◌≤◌, List, [], ◌∷◌, ◌++◌, length, get_or, slice_index, map, flat_map, sum_by, take, All, AllPairs, arith, ap, sym, ◌∙◌, refl, subst, ⊎_elim, inl, inr}
use Rattle.std.specs.List.{remove}
use Rattle.std.proofs.lemmas.Bool.{cases_lt, cases_order}
use Rattle.std.proofs.lemmas.List.{get_or-take, length-take-le}
use Rattle.std.proofs.lemmas.List.Elements.{All-head, All-tail}
use Rattle.std.proofs.lemmas.List.Sorted.{IsPermutation-remove, sum_by_popped}
use Rattle.std.proofs.lemmas.List.Sums.{get_or-le-sum_by, sum_by-append, sum_by-cons, sum_by_more_le}
use Rattle.exact_predicates.specs.declared.point.Point.{Point}
use Rattle.exact_predicates.specs.declared.tri.Tri.{Tri}
use Rattle.exact_predicates.specs.Hull.{IsHull, IsHullPair, ring_pairs}
use Rattle.exact_predicates.specs.PointSet.{IsPointSet}
use Rattle.exact_predicates.specs.Triangulation.{IsCorner, IsEmpty, IsTriangulation, hit, side_count, sides}
use Rattle.exact_predicates.proofs.Chains.{falls_on}
use Rattle.exact_predicates.proofs.Counts.{corners_of_side, hit-some}
use Rattle.exact_predicates.proofs.Elements.{sum_by-none, sum_by-some}
use Rattle.exact_predicates.proofs.ListFacts.{AllPairs-head, AllPairs-tail}
use Rattle.exact_predicates.proofs.Pairs.{hit_same, pair_or_not}
use Rattle.exact_predicates.proofs.Rings.{length-ring, pair_at}
use Rattle.exact_predicates.proofs.Sides.{sum_by-flat_map, sum_by-sides}
use Rattle.exact_predicates.proofs.SidesCounted.{all_sides, all_sides_counted, count, inner_sides, no_loops, turned}
use Rattle.flip_finish.proofs.CutSides.{over_triangle, pass, pass_cases}
use Rattle.flip_finish.proofs.SideSums.{sum_by-map}

-- lists with the same pairs, each as often, have the same sums
sum_by-same_counts : (f : ℕ × ℕ → ℕ) (xs ys : List (ℕ × ℕ)) → ((x y : ℕ) → count xs x y ≡ count ys x y) → sum_by f xs ≡ sum_by f ys
sum_by-same_counts f [] [] same = refl
sum_by-same_counts f [] (s ∷ ys) same =
    absurd (omega (arith, same s.0 s.1, sum_by-cons (hit s.0 s.1) s ys, hit_same s.0 s.1))
sum_by-same_counts f (s ∷ xs) ys same =
    let some : 1 ≤ count ys s.0 s.1 = omega (arith, same s.0 s.1, sum_by-cons (hit s.0 s.1) s xs, hit_same s.0 s.1) in
    let (k, p, k_in, at_k, is_it) = sum_by-some (hit s.0 s.1) ys some in
    let e = hit-some s.0 s.1 p.0 p.1 is_it in
    let moved = IsPermutation-remove ys k p k_in (sym at_k) in
    let here : (g : ℕ × ℕ → ℕ) → g p ≡ g s = λ g. ap (λ n. g (n, p.1)) e.0 ∙ ap (λ n. g (s.0, n)) e.1 in
    let less = sum_by-same_counts f xs (remove ys k)
    (λ x y. omega (arith, same x y, sum_by-cons (hit x y) s xs, sum_by_popped (hit x y) p ys (remove ys k) moved, here (hit x y))) in
    omega (arith, less, sum_by-cons f s xs, sum_by_popped f p ys (remove ys k) moved, here f)

-- what holds of each element holds of the sums
sum_by-each : {X : Type 0} (f g h : X → ℕ) (xs : List X) → All (λ x. f x + g x ≤ h x) xs → sum_by f xs + sum_by g xs ≤ sum_by h xs
sum_by-each f g h [] each = omega arith
sum_by-each f g h (x ∷ xs) each =
    omega (
      arith,
      sum_by-cons f x xs,
      sum_by-cons g x xs,
      sum_by-cons h x xs,
      All-head (λ x. f x + g x ≤ h x) x xs each,
      sum_by-each f g h xs (All-tail (λ x. f x + g x ≤ h x) x xs each),
    )

-- where one element at most counts, and counts as one
sum_by-one : {X : Type 0} (f : X → ℕ) (xs : List X) → ((x : X) → f x ≤ 1) → AllPairs (λ x y. 1 ≤ f x → f y ≡ 0) xs → sum_by f xs ≤ 1
sum_by-one f [] most apart = omega arith
sum_by-one {X} f (x ∷ xs) most apart =
    let R : X → X → Type 0 = λ x y. 1 ≤ f x → f y ≡ 0 in
    let rest = sum_by-one f xs most (AllPairs-tail R x xs apart) in
    ⊎_elim
    (λ none. omega (arith, sum_by-cons f x xs, rest))
    (λ some. omega (arith, sum_by-cons f x xs, most x, sum_by-none f xs (λ k d l. AllPairs-head R x xs apart k d l some)))
    (cases_lt (f x) 1)

-- two elements are in the sum
sum_by-two : {X : Type 0} (f : X → ℕ) (xs : List X) (i j : ℕ) (d : X) → i < j → j < length xs → f (get_or xs i d) + f (get_or xs j d) ≤ sum_by f xs
sum_by-two f xs i j d l j_in =
    omega (
      arith,
      sum_by_more_le f xs j d j_in,
      get_or-le-sum_by f (take j xs) i d (omega (arith, length-take-le j xs (omega arith))),
      ap f (get_or-take j xs i d l),
    )

module _ (ps : List Point) (hull : List ℕ) (s : IsPointSet ps) (h : IsHull ps hull) (u v : ℕ) where
  -- where the numbers of the hull fall once, they fall on
  falls_to : (i : ℕ) → slice_index hull (i + 1) < slice_index hull i → (j : ℕ) → i + 1 ≤ j → j < length hull → slice_index hull j ≤ slice_index hull (i + 1)
  falls_to i down zero low j_in = absurd (omega arith)
  falls_to i down (suc j) low j_in =
      ⊎_elim
      (λ (l : i < j).
      let e : suc j ≡ j + 1 = omega arith in
      rw e (omega (arith, falls_to i down j (omega arith) (omega arith), falls_on ps hull s h i down j (omega arith) (omega arith))))
      (λ (l : j ≤ i). let e : suc j ≡ i + 1 = omega arith in rw e (omega arith))
      (cases_lt i j)

  -- 1 where a pair of the hull goes back over the cut
  abbrev back : ℕ × ℕ → ℕ
  back p = pass ps u v (turned p)

  back_most : (p : ℕ × ℕ) → back p ≤ 1
  back_most p = ⊎_elim (λ e. omega arith) (λ e. omega (arith, e.0)) (pass_cases ps u v p.1 p.0)

  -- the first end of the pair at a place
  first_of : (i : ℕ) (d : ℕ × ℕ) → i < length hull → (z : ℕ) × (get_or (ring_pairs hull) i d ≡ (slice_index hull i, z))
  first_of i d l =
      ⊎_elim
      (λ (m : i + 1 < length hull). (slice_index hull (i + 1), pair_at hull _ _ i d l refl (inl (m, refl))))
      (λ (m : length hull ≤ i + 1). (slice_index hull 0, pair_at hull _ _ i d l refl (inr (omega arith, refl))))
      (cases_lt (i + 1) (length hull))

  back_once : AllPairs (λ p q. 1 ≤ back p → back q ≡ 0) (ring_pairs hull)
  back_once i j d l j_in some =
      let all = length-ring hull in
      let first = pair_at hull (slice_index hull i) (slice_index hull (i + 1)) i d (omega arith) refl (inl (omega arith, refl)) in
      let (z, second) = first_of j d (omega arith) in
      ⊎_elim
      (λ none. absurd (omega (arith, some, ap back first, none)))
      (λ one. ⊎_elim
      (λ none. ap back second ∙ none)
      (λ two. absurd (omega (arith, falls_to i (omega (arith, one.1, one.2)) j (omega arith) (omega arith), one.1, two.2)))
      (pass_cases ps u v z (slice_index hull j)))
      (pass_cases ps u v (slice_index hull (i + 1)) (slice_index hull i))

  ring_back : sum_by back (ring_pairs hull) ≤ 1
  ring_back = sum_by-one back (ring_pairs hull) back_most back_once

-- a side that goes up is there at most once
module _ (ps : List Point) (hull : List ℕ) (tris : List Tri) (s : IsPointSet ps) (h : IsHull ps hull) (t : IsTriangulation ps hull tris) where
  ends_in : (u v : ℕ) → 1 ≤ side_count tris u v → v < length ps
  ends_in u v some =
      let (k, x, k_in, at_k, has) = sum_by-some (λ (x : Tri). sum_by (hit u v) (sides x)) tris (omega (arith, sum_by-flat_map (hit u v) sides tris, some)) in
      let e : IsEmpty ps x = subst (λ (y : Tri). IsEmpty ps y) at_k (t.empty k x k_in) in
      corner_in x e (corners_of_side u v x has).1
    where
      corner_in : (x : Tri) → IsEmpty ps x → IsCorner x v → v < length ps
      corner_in x e c =
          let a = e.a_in in
          let b = e.b_in in
          let last = e.c_in in
          omega (arith, c)

  rising_once : (u v : ℕ) → u < v → side_count tris u v ≤ 1
  rising_once u v up =
      ⊎_elim
      (λ none. omega arith)
      (λ some. within (ends_in u v some))
      (cases_lt (side_count tris u v) 1)
    where
      within : v < length ps → side_count tris u v ≤ 1
      within v_in =
          let f : ℕ × ℕ → ℕ = pass ps u v in
          let b : ℕ × ℕ → ℕ = λ p. pass ps u v (turned p) in
          let all = flat_map sides tris in
          let ring = ring_pairs hull in
          let inner = inner_sides hull tris in
          let same : (x y : ℕ) → count all x y ≡ count (all_sides hull tris) x y = λ x y. all_sides_counted ps hull tris x y h t in
          let each = sum_by-each (λ (x : Tri). sum_by f (sides x)) (λ x. sum_by (hit u v) (sides x)) (λ x. sum_by b (sides x)) tris
          (λ k d l. over_triangle ps u v s up v_in (get_or tris k d) (t.empty k d l)) in
          omega (
            arith,
            each,
            sum_by-flat_map f sides tris,
            sum_by-flat_map (hit u v) sides tris,
            sum_by-flat_map b sides tris,
            sum_by-same_counts f all (all_sides hull tris) same,
            sum_by-same_counts b all (all_sides hull tris) same,
            sum_by-append f ring (inner ++ map turned inner),
            sum_by-append f inner (map turned inner),
            sum_by-map f turned inner,
            sum_by-append b ring (inner ++ map turned inner),
            sum_by-append b inner (map turned inner),
            sum_by-map b turned inner,
            ring_back ps hull s h u v,
          )

  falling_once : (u v : ℕ) → v < u → side_count tris u v ≤ 1
  falling_once u v down =
      ⊎_elim
      (λ (p : IsHullPair hull u v). omega (arith, t.hull_once u v p))
      (λ none. ⊎_elim
      (λ (p : IsHullPair hull v u). omega (arith, t.none_outside v u p))
      (λ none_back. omega (arith, t.balanced u v (λ e. absurd (omega arith)) none none_back, rising_once v u down))
      (pair_or_not hull v u))
      (pair_or_not hull u v)

-- a directed side is there at most once
pub side_once : (ps : List Point) (hull : List ℕ) (tris : List Tri) → IsPointSet ps → IsHull ps hull → IsTriangulation ps hull tris
    → (u v : ℕ) → side_count tris u v ≤ 1
side_once ps hull tris s h t u v =
    ⊎_elim
    (λ e. let none : side_count tris u v ≡ 0 = subst (λ z. side_count tris u z ≡ 0) e (no_loops tris u) in omega arith)
    (λ o. ⊎_elim (rising_once ps hull tris s h t u v) (falling_once ps hull tris s h t u v) o)
    (cases_order u v)

-- no triangle is there twice
pub triangles_differ : (ps : List Point) (hull : List ℕ) (tris : List Tri) → IsPointSet ps → IsHull ps hull → IsTriangulation ps hull tris
    → AllPairs (λ x y. x ≢ y) tris
triangles_differ ps hull tris s h t i j d l j_in e =
    let x = get_or tris i d in
    let g : Tri → ℕ = λ y. sum_by (hit x.a x.b) (sides y) in
    omega (
      arith,
      sum_by-two g tris i j d l j_in,
      ap g e,
      sum_by-sides (hit x.a x.b) x x.a x.b x.c (inl (refl, refl, refl)),
      hit_same x.a x.b,
      sum_by-flat_map (hit x.a x.b) sides tris,
      side_once ps hull tris s h t x.a x.b,
    )
