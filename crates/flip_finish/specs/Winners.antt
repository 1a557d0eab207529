-- The triangles of slots, and the winners: the slots whose edges a round of claimed flips exchanges.
use Rattle.std.specs.Prelude.{◌≡◌, ◌⊎◌, ℕ, ◌<◌, List, All, AllPairs, Contains, Some, None}
use Rattle.exact_predicates.specs.declared.point.Point.{Point}
use Rattle.exact_predicates.specs.Hull.{IsHullPair}
use Rattle.flip_finish.specs.declared.slot.Slot.{Slot}
use Rattle.flip_finish.specs.Flipping.{Shortens}
use Rattle.flip_finish.specs.Mesh.{Parts}
use Rattle.flip_finish.specs.Places.{IsAt}

-- the slot has the triangle t on the left of its edge, and u on the right
pub record HasPair (m : Parts) (slot t u : ℕ) : Type 0 where
  pub it : Slot
  pub it_at : IsAt m.slots slot it
  pub left : it.left ≡ Some t
  pub right : it.right ≡ Some u

-- the slot lacks a triangle
pub record LacksTriangle (m : Parts) (slot : ℕ) : Type 0 where
  pub it : Slot
  pub it_at : IsAt m.slots slot it
  pub lacks : (it.left ≡ None) ⊎ (it.right ≡ None)

-- the slot's edge is an edge of the hull
pub record IsOnHull (hull : List ℕ) (m : Parts) (slot : ℕ) : Type 0 where
  pub it : Slot
  pub it_at : IsAt m.slots slot it
  pub pair : IsHullPair hull it.edge.a it.edge.b ⊎ IsHullPair hull it.edge.b it.edge.a

-- t is one of the triangles of the slot
pub record HasTriangle (m : Parts) (slot t : ℕ) : Type 0 where
  pub it : Slot
  pub it_at : IsAt m.slots slot it
  pub has : (it.left ≡ Some t) ⊎ (it.right ≡ Some t)

-- A winner shortens, and shares no triangle with a smaller slot that shortens.
pub record IsWinner (ps : List Point) (m : Parts) (slot : ℕ) : Type 0 where
  pub shortens : Shortens ps m slot
  pub least : (p t : ℕ) → p < slot → Shortens ps m p → HasTriangle m p t → ¬ HasTriangle m slot t

-- All winners, ascending.
pub record AreWinners (ps : List Point) (m : Parts) (winners : List ℕ) : Type 0 where
  pub ascending : AllPairs (λ p q. p < q) winners
  pub each : All (IsWinner ps m) winners
  pub all : (slot : ℕ) → IsWinner ps m slot → Contains winners slot
