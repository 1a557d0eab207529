-- Flips in a mesh, and what a row of shortening flips keeps.
use Rattle.std.specs.Prelude.{◌≡◌, ◌≢◌, ◌⊎◌, ℕ, ◌<◌, List, length, All, sum_by, Option, Some, slice_set}
use Rattle.exact_predicates.specs.declared.edge.Edge.{Edge}
use Rattle.exact_predicates.specs.declared.point.Point.{Point}
use Rattle.exact_predicates.specs.declared.tri.Tri.{Tri}
use Rattle.exact_predicates.specs.Candidates.{Joins}
use Rattle.exact_predicates.specs.Flip.{IsFlip, IsShortening}
use Rattle.exact_predicates.specs.Hull.{IsHull}
use Rattle.exact_predicates.specs.Length.{IsNotLonger, edge_d2}
use Rattle.exact_predicates.specs.Plane.{d2}
use Rattle.exact_predicates.specs.PointSet.{point_at}
use Rattle.exact_predicates.specs.Triangulation.{HasCorners, edges}
use Rattle.flip_finish.specs.declared.slot.Slot.{Slot}
use Rattle.flip_finish.specs.Mesh.{Parts, HasLeft, IsMeshOf, IsWithin, slot_edges}
use Rattle.flip_finish.specs.Places.{IsAt}

-- the slot has the edge uv, where u is the lesser end, with the triangle uva at i on its left and vub at j on its right
pub record HasQuad (m : Parts) (slot u v a b : ℕ) : Type 0 where
  pub up : u < v
  pub i : ℕ
  pub j : ℕ
  pub left : HasLeft m.slots slot u v i
  pub right : HasLeft m.slots slot v u j
  pub left_tri : Tri
  pub right_tri : Tri
  pub left_at : IsAt m.tris i left_tri
  pub right_at : IsAt m.tris j right_tri
  pub left_is : HasCorners left_tri u v a
  pub right_is : HasCorners right_tri v u b

-- the slot's edge uv has triangles uva and vub, their quadrilateral is strictly convex, and ab is shorter than uv
pub record Shortens (ps : List Point) (m : Parts) (slot : ℕ) : Type 0 where
  pub u : ℕ
  pub v : ℕ
  pub a : ℕ
  pub b : ℕ
  pub quad : HasQuad m slot u v a b
  pub shortening : IsShortening ps u v a b

-- the same triangle, or one of i and j for the other
abbrev pub IsSameBut : ℕ → ℕ → Option ℕ → Option ℕ → Type 0
IsSameBut i j s t = (s ≡ t) ⊎ (((s ≡ Some i) × (t ≡ Some j)) ⊎ ((s ≡ Some j) × (t ≡ Some i)))

-- The slot's edge uv has become ab, and the two triangles on uv those on ab; all other edges and triangles stay. A side
-- of the quadrilateral may have changed from one of the two triangles to the other.
pub record IsFlipped (ps : List Point) (old new : Parts) (slot : ℕ) : Type 0 where
  pub u : ℕ
  pub v : ℕ
  pub a : ℕ
  pub b : ℕ
  pub quad : HasQuad old slot u v a b
  pub shortening : IsShortening ps u v a b
  pub tris : IsFlip old.tris new.tris u v a b
  pub i_same : tris.i ≡ quad.i
  pub j_same : tris.j ≡ quad.j
  pub edge : Edge
  pub joins : Joins edge a b
  pub edges : slot_edges new.slots ≡ slice_set (slot_edges old.slots) slot edge
  pub top : HasLeft new.slots slot b a quad.i
  pub bottom : HasLeft new.slots slot a b quad.j
  pub others : (p : ℕ) (s t : Slot) → p ≢ slot → IsAt old.slots p s → IsAt new.slots p t
      → (t.edge ≡ s.edge) × IsSameBut quad.i quad.j s.left t.left × IsSameBut quad.i quad.j s.right t.right

-- the squared length of a slot's edge
abbrev pub slot_d2 : List Point → Slot → ℕ
slot_d2 ps s = d2 (point_at ps s.edge.a) (point_at ps s.edge.b)

-- What shortening flips keep: as many slots, corners among the points ps, and where the mesh was a triangulation with some
-- hull it is one, and not longer.
pub record IsShortened (ps : List Point) (old new : Parts) : Type 0 where
  pub slots : length new.slots ≡ length old.slots
  pub within : All (IsWithin ps) old.tris → All (IsWithin ps) new.tris
  pub kept : (hull : List ℕ) → IsHull ps hull → IsMeshOf ps hull old → IsMeshOf ps hull new
  pub not_longer : (hull : List ℕ) → IsHull ps hull → IsMeshOf ps hull old
      → IsNotLonger ps (edges hull new.tris) (edges hull old.tris)

-- Where the mesh was a triangulation with some hull, the squared lengths of its edges have become less together.
abbrev pub IsLowered : List Point → Parts → Parts → Type 0
IsLowered ps old new =
    (hull : List ℕ) → IsHull ps hull → IsMeshOf ps hull old
    → sum_by (edge_d2 ps) (edges hull new.tris) < sum_by (edge_d2 ps) (edges hull old.tris)
