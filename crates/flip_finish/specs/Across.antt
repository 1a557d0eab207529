-- The two triangles on a slot's edge, and what their flip writes.
use Rattle.std.specs.Prelude.{◌≡◌, ◌⊎◌, ℕ, ◌<◌, List, None, slice_set}
use Rattle.flip_finish.specs.declared.across.Across.{Across}
use Rattle.flip_finish.specs.declared.face.Face.{Face}
use Rattle.flip_finish.specs.declared.face.Seen.{Seen}
use Rattle.flip_finish.specs.declared.slot.Slot.{Slot}
use Rattle.flip_finish.specs.Face.{HasSides}
use Rattle.flip_finish.specs.Places.{IsAt}
use Rattle.flip_finish.specs.Slot.{IsSlotOf, with_left}

-- the face t, as seen from its side at a slot
pub record IsSeen (faces : List Face) (t : ℕ) (slot : ℕ) (seen : Seen) : Type 0 where
  pub face : Face
  pub face_at : IsAt faces t face
  pub sides : HasSides face seen.u seen.v seen.w seen.uv seen.vw seen.wu
  pub slot_is : seen.uv ≡ slot

-- the slot has an edge uv, where u is the lesser end, and on its two sides the triangles uva and vub
pub record IsAcross (faces : List Face) (slot : ℕ) (x : Across) : Type 0 where
  pub left : IsSeen faces x.i slot x.left
  pub right : IsSeen faces x.j slot x.right
  pub up : x.left.u < x.left.v
  pub u_is : x.right.v ≡ x.left.u
  pub v_is : x.right.u ≡ x.left.v

-- the slot lacks a triangle
pub record IsOuter (slots : List Slot) (slot : ℕ) : Type 0 where
  pub it : Slot
  pub it_at : IsAt slots slot it
  pub lacks : (it.left ≡ None) ⊎ (it.right ≡ None)

-- the two triangles are flipped: both get new corners, the slot gets the edge ab, and the two sides that pass from one
-- triangle to the other are written into their slots
pub record IsExchanged (faces new_faces : List Face) (slots new_slots : List Slot) (x : Across) : Type 0 where
  pub top : Face
  pub bottom : Face
  pub diagonal : Slot
  pub ub_slot : Slot
  pub va_slot : Slot
  pub top_is : HasSides top x.left.u x.right.w x.left.w x.right.vw x.left.uv x.left.wu
  pub bottom_is : HasSides bottom x.left.v x.left.w x.right.w x.left.vw x.left.uv x.right.wu
  pub diagonal_is : IsSlotOf diagonal x.right.w x.left.w x.i x.j
  pub ub_at : IsAt (slice_set slots x.left.uv diagonal) x.right.vw ub_slot
  pub va_at : IsAt (slice_set (slice_set slots x.left.uv diagonal) x.right.vw (with_left ub_slot x.left.u x.right.w x.i)) x.left.vw va_slot
  pub faces_are : new_faces ≡ slice_set (slice_set faces x.i top) x.j bottom
  pub slots_are : new_slots ≡ slice_set
      (slice_set (slice_set slots x.left.uv diagonal) x.right.vw (with_left ub_slot x.left.u x.right.w x.i))
      x.left.vw
      (with_left va_slot x.left.v x.left.w x.j)
