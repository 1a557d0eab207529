-- Slots by what is on the two sides of their edges.
use Rattle.std.specs.Prelude.{◌≡◌, ℕ, nat_lt, Some, if◌then◌else◌}
use Rattle.exact_predicates.specs.Candidates.{Joins}
use Rattle.flip_finish.specs.declared.slot.Slot.{Slot}
use Rattle.flip_finish.specs.Mesh.{triangle_left}

-- the slot with the triangle t on the left of its edge, where one goes along it from x to y
abbrev pub with_left : Slot → ℕ → ℕ → ℕ → Slot
with_left s x y t = record {
  edge = s.edge;
  left = if nat_lt x y then Some t else s.left;
  right = if nat_lt x y then s.right else Some t;
}

-- a slot of the edge xy, with t on the left of x to y, and o on the right
pub record IsSlotOf (s : Slot) (x y t o : ℕ) : Type 0 where
  pub joins : Joins s.edge x y
  pub left : triangle_left s x y ≡ Some t
  pub right : triangle_left s y x ≡ Some o
