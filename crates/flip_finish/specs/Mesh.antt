-- A mesh: a list of triangles, and a list of slots, each with an edge and the triangles on its two sides.
use Rattle.std.specs.Prelude.{◌≡◌, ℕ, ◌+◌, ◌<◌, nat_lt, List, length, map, sum_by, Option, Some, None, if◌then◌else◌}
use Rattle.exact_predicates.specs.declared.edge.Edge.{Edge}
use Rattle.exact_predicates.specs.declared.point.Point.{Point}
use Rattle.exact_predicates.specs.declared.tri.Tri.{Tri}
use Rattle.exact_predicates.specs.Candidates.{EdgePrecedes, Joins}
use Rattle.exact_predicates.specs.Hull.{IsHullPair}
use Rattle.exact_predicates.specs.Triangulation.{HasCorners, IsTriangulation, edges, hit}
use Rattle.flip_finish.specs.declared.slot.Slot.{Slot}
use Rattle.flip_finish.specs.Places.{IsAt}

-- what a mesh shows: its triangles and its slots, each in its own order
pub record Parts : Type 0 where
  pub tris : List Tri
  pub slots : List Slot

-- the edges of slots
abbrev pub slot_edges : List Slot → List Edge
slot_edges slots = map (λ s. s.edge) slots

-- the number of the triangle on the left of a slot's edge, where one goes along it from x to y
abbrev pub triangle_left : Slot → ℕ → ℕ → Option ℕ
triangle_left s x y = if nat_lt x y then s.left else s.right

-- the slot p has the edge xy, and on the left of x to y the triangle t
pub record HasLeft (slots : List Slot) (p x y t : ℕ) : Type 0 where
  pub slot : Slot
  pub slot_at : IsAt slots p slot
  pub joins : Joins slot.edge x y
  pub left : triangle_left slot x y ≡ Some t

-- each side of a triangle is on a slot's edge, which has the triangle on that side; and the other way round
pub record IsWhole (m : Parts) : Type 0 where
  pub of_side : (t : ℕ) (tri : Tri) (x y w : ℕ) → IsAt m.tris t tri → HasCorners tri x y w → (p : ℕ) × HasLeft m.slots p x y t
  pub of_slot : (p x y t : ℕ) → HasLeft m.slots p x y t → (tri : Tri) × (w : ℕ) × IsAt m.tris t tri × HasCorners tri x y w

-- all corners are numbers of the points ps
pub record IsWithin (ps : List Point) (t : Tri) : Type 0 where
  pub a_in : t.a < length ps
  pub b_in : t.b < length ps
  pub c_in : t.c < length ps

-- in the order of edges f does not come before e
abbrev pub IsUpTo : Edge → Edge → Type 0
IsUpTo e f = ¬ EdgePrecedes f e

-- how often the edge xy is in a list, whichever way round
abbrev pub edge_count : List (ℕ × ℕ) → ℕ → ℕ → ℕ
edge_count es x y = sum_by (hit x y) es + sum_by (hit y x) es

-- The mesh is a triangulation of the points ps with this hull. Its slots have the edges, each as often as it occurs, and lack
-- a triangle only where the edge is a pair of the hull with nothing on its other side.
pub record IsMeshOf (ps : List Point) (hull : List ℕ) (m : Parts) : Type 0 where
  pub tris : IsTriangulation ps hull m.tris
  pub each : (x y : ℕ) → x < y → sum_by (λ s. hit x y (s.edge.a, s.edge.b)) m.slots ≡ edge_count (edges hull m.tris) x y
  pub outer_left : (p : ℕ) (s : Slot) → IsAt m.slots p s → s.left ≡ None → IsHullPair hull s.edge.b s.edge.a
  pub outer_right : (p : ℕ) (s : Slot) → IsAt m.slots p s → s.right ≡ None → IsHullPair hull s.edge.a s.edge.b
