-- Triangulations of a set of points.
use Rattle.std.specs.Prelude.{◌≡◌, ◌≢◌, ◌⊎◌, ℕ, ◌+◌, ◌*◌, ◌<◌, Bool, not, ◌&&◌, ◌==◌, nat_lt, List, [], ◌∷◌, ◌++◌, length, All, Any, sum_by, filter, flat_map, cond, pos, ◌<ℤ◌}
use Rattle.std.specs.List.{list_any}
use Rattle.std.specs.Ordering.{nat_cmp, ordering_then}
use Rattle.std.specs.declared.cmp.Ordering.{Ordering}
use Rattle.exact_predicates.specs.declared.point.Point.{Point}
use Rattle.exact_predicates.specs.declared.tri.Tri.{Tri}
use Rattle.exact_predicates.specs.Plane.{orient, IsInClosedTriangle}
use Rattle.exact_predicates.specs.PointSet.{point_at}
use Rattle.exact_predicates.specs.Hull.{ring_pairs, IsHullPair}

-- the order of triangles: by a, then b, then c
abbrev pub tri_cmp : Tri → Tri → Ordering
tri_cmp s t = ordering_then (nat_cmp s.a t.a) (ordering_then (nat_cmp s.b t.b) (nat_cmp s.c t.c))

-- x is a corner of t
abbrev pub IsCorner : Tri → ℕ → Type 0
IsCorner t x = (x ≡ t.a) ⊎ ((x ≡ t.b) ⊎ (x ≡ t.c))

-- t has the corners u, v and w in this turn
abbrev pub HasCorners : Tri → ℕ → ℕ → ℕ → Type 0
HasCorners t u v w =
    ((t.a ≡ u) × (t.b ≡ v) × (t.c ≡ w)) ⊎ (((t.b ≡ u) × (t.c ≡ v) × (t.a ≡ w)) ⊎ ((t.c ≡ u) × (t.a ≡ v) × (t.b ≡ w)))

-- t is an empty triangle of the points ps: it is counter-clockwise, and only its corners lie in it or on its rim
pub record IsEmpty (ps : List Point) (t : Tri) : Type 0 where
  pub a_in : t.a < length ps
  pub b_in : t.b < length ps
  pub c_in : t.c < length ps
  pub turns_left : pos 0 <ℤ orient (point_at ps t.a) (point_at ps t.b) (point_at ps t.c)
  pub bare : (r : ℕ) → r < length ps
      → IsInClosedTriangle (point_at ps t.a) (point_at ps t.b) (point_at ps t.c) (point_at ps r) → IsCorner t r

-- the directed sides of a triangle
abbrev pub sides : Tri → List (ℕ × ℕ)
sides t = (t.a, t.b) ∷ (t.b, t.c) ∷ (t.c, t.a) ∷ []

-- s is the side u to v
abbrev pub is_side : ℕ → ℕ → ℕ × ℕ → Bool
is_side u v s = (s.0 == u) && (s.1 == v)

-- 1 where s is the side u to v, and else 0
unfoldable pub hit : ℕ → ℕ → ℕ × ℕ → ℕ
hit u v s = cond (is_side u v s) 1 0

-- how often the side u to v occurs
abbrev pub side_count : List Tri → ℕ → ℕ → ℕ
side_count tris u v = sum_by (hit u v) (flat_map sides tris)

-- A triangulation of the points ps with this hull: as many empty triangles as Euler's formula gives, each pair of the
-- hull as a side once and never the other way round, each other side as often one way as the other, each point a
-- corner. Such a list covers each point inside the hull, but those on a side, exactly once.
pub record IsTriangulation (ps : List Point) (hull : List ℕ) (tris : List Tri) : Type 0 where
  pub empty : All (IsEmpty ps) tris
  pub count : length tris + length hull + 2 ≡ 2 * length ps
  pub hull_once : (u v : ℕ) → IsHullPair hull u v → side_count tris u v ≡ 1
  pub none_outside : (u v : ℕ) → IsHullPair hull u v → side_count tris v u ≡ 0
  pub balanced : (u v : ℕ) → u ≢ v → ¬ IsHullPair hull u v → ¬ IsHullPair hull v u
      → side_count tris u v ≡ side_count tris v u
  pub corners : (x : ℕ) → x < length ps → Any (λ t. IsCorner t x) tris

-- whether s goes up and is no pair of the hull
abbrev pub is_inner : List ℕ → ℕ × ℕ → Bool
is_inner hull s = nat_lt s.0 s.1 && not (list_any (is_side s.0 s.1) (ring_pairs hull))

-- the edges of a triangulation: the pairs of the hull, and each other side that goes up, as often as it occurs
abbrev pub edges : List ℕ → List Tri → List (ℕ × ℕ)
edges hull tris = ring_pairs hull ++ filter (is_inner hull) (flat_map sides tris)
