-- The slots of a triangulation.
use Rattle.std.specs.Prelude.{◌≡◌, ℕ, ◌+◌, ◌<◌, ◌^◌, List, length, AllPairs, sum_by, None}
use Rattle.exact_predicates.specs.declared.tri.Tri.{Tri}
use Rattle.exact_predicates.specs.Hull.{IsHullPair, ring_pairs}
use Rattle.exact_predicates.specs.Triangulation.{HasCorners, hit, side_count}
use Rattle.flip_finish.specs.declared.halves.Half.{Half}
use Rattle.flip_finish.specs.declared.slot.Slot.{Slot}
use Rattle.flip_finish.specs.Mesh.{HasLeft, IsUpTo}
use Rattle.flip_finish.specs.Places.{IsAt}

-- x to y, with the outer sides of the hull, occurs as often as y to x
pub record IsMet (hull : List ℕ) (tris : List Tri) (x y : ℕ) : Type 0 where
  pub met : side_count tris x y + sum_by (hit y x) (ring_pairs hull) ≡ side_count tris y x + sum_by (hit x y) (ring_pairs hull)

-- the slot of two halves, one from each side of an edge
abbrev pub slot_of : Half × Half → Slot
slot_of p = record { edge = p.0.edge; left = p.0.face; right = p.1.face }

-- each side of a triangle is at just one slot
pub record AreSlotsOf (tris : List Tri) (slots : List Slot) : Type 0 where
  pub few : length slots < 2 ^ 32
  pub sound : (p x y t : ℕ) → HasLeft slots p x y t → (tri : Tri) × (w : ℕ) × IsAt tris t tri × HasCorners tri x y w
  pub complete : (t : ℕ) (tri : Tri) (x y w : ℕ) → IsAt tris t tri → HasCorners tri x y w → (p : ℕ) × HasLeft slots p x y t
  pub unique : (p q x y t : ℕ) → HasLeft slots p x y t → HasLeft slots q x y t → p ≡ q

-- The slots of a triangulation: they lack a triangle only outside of the hull, their edges ascend, and each edge is there as
-- often as the triangles and the hull have its sides.
pub record AreSlots (hull : List ℕ) (tris : List Tri) (slots : List Slot) : Type 0 where
  pub of : AreSlotsOf tris slots
  pub outer_left : (p : ℕ) (s : Slot) → IsAt slots p s → s.left ≡ None → IsHullPair hull s.edge.b s.edge.a
  pub outer_right : (p : ℕ) (s : Slot) → IsAt slots p s → s.right ≡ None → IsHullPair hull s.edge.a s.edge.b
  pub ascending : AllPairs (λ s t. IsUpTo s.edge t.edge) slots
  pub each : (x y : ℕ) → x < y
      → sum_by (λ s. hit x y (s.edge.a, s.edge.b)) slots ≡ side_count tris x y + sum_by (hit y x) (ring_pairs hull)
