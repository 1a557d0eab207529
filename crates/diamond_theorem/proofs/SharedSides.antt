-- A side of a triangulation with a point to its right has a triangle there too.
use Rattle.std.proofs.Common.{◌≡◌, ℕ, ◌≤◌, ◌<◌, List, length, flat_map, sum_by, Contains, pos, ◌<ℤ◌, arith, ap, refl, ◌∙◌, subst, ⊎_elim, inl, inr}
use Rattle.std.proofs.lemmas.Bool.{cases_lt}
use Rattle.std.proofs.lemmas.Int.{ints}
use Rattle.std.proofs.lemmas.List.Elements.{All-contains}
use Rattle.exact_predicates.specs.declared.point.Point.{Point}
use Rattle.exact_predicates.specs.declared.tri.Tri.{Tri}
use Rattle.exact_predicates.specs.Hull.{IsHull}
use Rattle.exact_predicates.specs.Plane.{orient}
use Rattle.exact_predicates.specs.PointSet.{point_at}
use Rattle.exact_predicates.specs.Triangulation.{IsEmpty, IsTriangulation, hit, side_count, sides}
use Rattle.exact_predicates.proofs.Corners.{IsBare, IsBare-corners, corners_differ, turned_corners}
use Rattle.exact_predicates.proofs.Counts.{hit-some}
use Rattle.exact_predicates.proofs.Elements.{Any-weaker, sum_by-some}
use Rattle.exact_predicates.proofs.Pairs.{pair_or_not, side_of_member}
use Rattle.exact_predicates.proofs.Sides.{sum_by-flat_map, sum_by-sides}
use Rattle.diamond_theorem.specs.Walks.{HasSide, HasTriangle}

pub HasTriangle-turned : (tris : List Tri) (u v w : ℕ) → HasTriangle tris (u, v) w → HasTriangle tris (v, w) u
HasTriangle-turned tris u v w h = Any-weaker _ _ (λ t c. turned_corners t u v w c) tris h

-- the triangle on a side is empty
pub HasTriangle-bare : (ps : List Point) (hull : List ℕ) (tris : List Tri) (u v w : ℕ) → IsTriangulation ps hull tris → HasTriangle tris (u, v) w → IsBare ps u v w
HasTriangle-bare ps hull tris u v w is (k, t, k_in, at_k, c) =
    IsBare-corners ps t u v w c (All-contains (IsEmpty ps) tris t is.empty (k, k_in, at_k))

side_counted : (tris : List Tri) (u v w : ℕ) → HasTriangle tris (u, v) w → 1 ≤ side_count tris u v
side_counted tris u v w (k, t, k_in, at_k, c) = side_of_member tris k t u v w k_in at_k c

-- a side stands in the list of sides
pub side_listed : (tris : List Tri) (u v w : ℕ) → HasTriangle tris (u, v) w → Contains (flat_map sides tris) (u, v)
side_listed tris u v w h =
    let (k, s, k_in, at_k, is_it) = sum_by-some (hit u v) (flat_map sides tris) (side_counted tris u v w h) in
    let e = hit-some u v s.0 s.1 is_it in
    let same : s ≡ (u, v) = ap (λ n. (n, s.1)) e.0 ∙ ap (λ n. (u, n)) e.1 in
    subst (Contains (flat_map sides tris)) same (k, k_in, at_k)

-- a triangle in which a side is counted has it
has_side : (t : Tri) (u v : ℕ) → 1 ≤ sum_by (hit u v) (sides t) → HasSide t (u, v)
has_side t u v l =
    let sum = sum_by-sides (hit u v) t t.a t.b t.c (inl (refl, refl, refl)) in
    ⊎_elim
    (λ no_ab. ⊎_elim
    (λ no_bc. let e = hit-some u v t.c t.a (omega arith) in (t.b, inr (inr (e.0, e.1, refl))))
    (λ bc. let e = hit-some u v t.b t.c bc in (t.a, inr (inl (e.0, e.1, refl))))
    (cases_lt (hit u v (t.b, t.c)) 1))
    (λ ab. let e = hit-some u v t.a t.b ab in (t.c, inl (e.0, e.1, refl)))
    (cases_lt (hit u v (t.a, t.b)) 1)

counted_side : (tris : List Tri) (u v : ℕ) → 1 ≤ side_count tris u v → (w : ℕ) × HasTriangle tris (u, v) w
counted_side tris u v l =
    let (k, t, k_in, at_k, some) = sum_by-some (λ t. sum_by (hit u v) (sides t)) tris (omega (arith, l, sum_by-flat_map (hit u v) sides tris)) in
    let side = has_side t u v some in
    (side.0, (k, t, k_in, at_k, side.1))

pub other_side : (ps : List Point) (hull : List ℕ) (tris : List Tri) (u v w r : ℕ) → IsHull ps hull → IsTriangulation ps hull tris → HasTriangle tris (u, v) w → r < length ps
    → orient (point_at ps u) (point_at ps v) (point_at ps r) <ℤ pos 0 → (x : ℕ) × HasTriangle tris (v, u) x
other_side ps hull tris u v w r hull_is is tri r_in right =
    let (k, t, k_in, at_k, c) = tri in
    let there = side_counted tris u v w tri in
    counted_side tris v u
    (⊎_elim
    (λ pair. let h = hull_is.none_right u v r pair r_in in absurd (omega (arith, ints)))
    (λ none. ⊎_elim
    (λ pair. omega (arith, is.hull_once v u pair))
    (λ none_back. omega (arith, is.balanced u v (corners_differ t u v w c) none none_back))
    (pair_or_not hull v u))
    (pair_or_not hull u v))
