-- Flips: in a list of triangles the two on an edge give way to the two on the other diagonal.
use Rattle.std.specs.Prelude.{◌≡◌, ◌≢◌, ◌⊎◌, ℕ, ◌<◌, ◌≤◌, List, length, All, Any, filter, flat_map, slice_index_or, slice_set}
use Rattle.exact_predicates.specs.declared.point.Point.{Point}
use Rattle.exact_predicates.specs.declared.tri.Tri.{Tri}
use Rattle.exact_predicates.specs.Plane.{Crosses, d2}
use Rattle.exact_predicates.specs.PointSet.{point_at}
use Rattle.exact_predicates.specs.Triangulation.{HasCorners, sides, is_inner}

-- in new the triangles uva and vub of old, at i and j, have given way to those on ab
pub record IsFlip (old new : List Tri) (u v a b : ℕ) : Type 0 where
  pub i : ℕ
  pub j : ℕ
  pub i_in : i < length old
  pub j_in : j < length old
  pub i_j : i ≢ j
  pub left : Tri
  pub right : Tri
  pub left_at : slice_index_or old i left ≡ left
  pub right_at : slice_index_or old j right ≡ right
  pub left_is : HasCorners left u v a
  pub right_is : HasCorners right v u b
  pub top : Tri
  pub bottom : Tri
  pub top_is : HasCorners top u b a
  pub bottom_is : HasCorners bottom v a b
  pub after : new ≡ slice_set (slice_set old i top) j bottom

-- the quadrilateral u, b, v, a is strictly convex, and ab is its shorter diagonal
pub record IsShortening (ps : List Point) (u v a b : ℕ) : Type 0 where
  pub convex : Crosses (point_at ps u) (point_at ps v) (point_at ps a) (point_at ps b)
  pub shorter : d2 (point_at ps a) (point_at ps b) < d2 (point_at ps u) (point_at ps v)

-- uv is locally minimal between the triangles uva and vub: their quadrilateral is not strictly convex, or the other
-- diagonal ab is not shorter
abbrev pub IsMinimalBetween : List Point → ℕ → ℕ → ℕ → ℕ → Type 0
IsMinimalBetween ps u v a b =
    (¬ Crosses (point_at ps u) (point_at ps v) (point_at ps a) (point_at ps b))
    ⊎ (d2 (point_at ps u) (point_at ps v) ≤ d2 (point_at ps a) (point_at ps b))

-- uv has two triangles in the list between which it is locally minimal
pub record IsMinimalIn (ps : List Point) (tris : List Tri) (u v : ℕ) : Type 0 where
  pub a : ℕ
  pub b : ℕ
  pub on_left : Any (λ t. HasCorners t u v a) tris
  pub on_right : Any (λ t. HasCorners t v u b) tris
  pub minimal : IsMinimalBetween ps u v a b

-- A flip-minimal triangulation: no edge but those of the hull can be made shorter by a flip.
abbrev pub IsFlipMinimal : List Point → List ℕ → List Tri → Type 0
IsFlipMinimal ps hull tris = All (λ e. IsMinimalIn ps tris e.0 e.1) (filter (is_inner hull) (flat_map sides tris))
