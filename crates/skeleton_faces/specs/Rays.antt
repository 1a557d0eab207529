-- Sides as they are seen from their starts, and their order.
use Rattle.std.specs.Prelude.{◌≡◌, ◌≢◌, ℕ, ◌*◌, ◌/◌, ◌<◌, List, Bool, true, false, length, slice_index_or, All, AllPairs, Any, ◌-ℤ◌, ◌*ℤ◌}
use Rattle.std.specs.declared.cmp.Ordering.{Ordering}
use Rattle.std.specs.Ordering.{bool_cmp, int_cmp, is_lt, nat_cmp, ordering_then}
use Rattle.exact_predicates.specs.declared.edge.Edge.{Edge}
use Rattle.exact_predicates.specs.declared.point.Point.{Point}
use Rattle.exact_predicates.specs.PointSet.{point_at}
use Rattle.skeleton_faces.specs.declared.ray.Ray.{Ray}
use Rattle.skeleton_faces.specs.Marks.{nth_edge}
use Rattle.skeleton_faces.specs.Sides.{is_backward, side_start}

-- how two rays compare: by start, then the forward ones first, then going round to the left
abbrev pub ray_cmp : Ray → Ray → Ordering
ray_cmp s t = ordering_then (ordering_then (nat_cmp s.from t.from) (bool_cmp s.backward t.backward)) (int_cmp (s.height *ℤ t.width) (s.width *ℤ t.height))

-- r shows one of the sides of the edges
pub record IsRay (ps : List Point) (es : List Edge) (r : Ray) : Type 0 where
  pub side_in : r.side < 2 * length es
  pub from : r.from ≡ side_start es r.side
  pub backward : r.backward ≡ is_backward r.side
  pub width : r.width ≡ (point_at ps (nth_edge es (r.side / 2)).b).x -ℤ (point_at ps (nth_edge es (r.side / 2)).a).x
  pub height : r.height ≡ (point_at ps (nth_edge es (r.side / 2)).b).y -ℤ (point_at ps (nth_edge es (r.side / 2)).a).y

-- the side goes along an edge of which the flag is set, from its lesser end to its greater
abbrev pub IsSideUp : List Bool → ℕ → Type 0
IsSideUp flags s = (e : ℕ) × (s ≡ 2 * e) × (slice_index_or flags e false ≡ true)

-- Rays that show each of the sides with P once.
pub record AreShown (ps : List Point) (es : List Edge) (P : ℕ → Type 0) (rays : List Ray) : Type 0 where
  pub each : All (IsRay ps es) rays
  pub only : All (λ r. P r.side) rays
  pub all : (s : ℕ) → P s → Any (λ r. r.side ≡ s) rays
  pub distinct : AllPairs (λ r t. r.side ≢ t.side) rays

-- The same in their order.
pub record AreRays (ps : List Point) (es : List Edge) (P : ℕ → Type 0) (rays : List Ray) : Type 0 where
  pub shown : AreShown ps es P rays
  pub sorted : AllPairs (λ r t. is_lt (ray_cmp t r) ≡ false) rays
