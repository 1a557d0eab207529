-- Walks through the triangles of a triangulation, from an edge ab to a point p on its left.
use Rattle.std.specs.Prelude.{◌≡◌, ◌⊎◌, ℕ, ◌<◌, List, [], ◌∷◌, length, Any, AllPairs}
use Rattle.exact_predicates.specs.declared.point.Point.{Point}
use Rattle.exact_predicates.specs.declared.tri.Tri.{Tri}
use Rattle.exact_predicates.specs.Plane.{IsInClosedTriangle, IsInLeftDiamond}
use Rattle.exact_predicates.specs.PointSet.{point_at}
use Rattle.exact_predicates.specs.Triangulation.{HasCorners}
use Rattle.diamond_theorem.specs.Discs.{IsInDisc}
use Rattle.diamond_theorem.specs.Steps.{IsStep}

-- some triangle has the side s and the corner z across from it
abbrev pub HasTriangle : List Tri → ℕ × ℕ → ℕ → Type 0
HasTriangle tris s z = Any (λ t. HasCorners t s.0 s.1 z) tris

-- a walk from ab may go to p: p lies in the left diamond of ab, and in the triangle abp no other point but a and b
pub record IsGoal (ps : List Point) (a b p : ℕ) : Type 0 where
  pub within : p < length ps
  pub in_diamond : IsInLeftDiamond (point_at ps a) (point_at ps b) (point_at ps p)
  pub alone : (r : ℕ) → r < length ps → IsInClosedTriangle (point_at ps a) (point_at ps b) (point_at ps p) (point_at ps r)
      → (r ≡ a) ⊎ ((r ≡ b) ⊎ (r ≡ p))

-- a corner of a walk, on the left or on the right
pub data Corner : Type 0 where
  on_left : ℕ → Corner
  on_right : ℕ → Corner

-- the number of its point
abbrev pub number_of : Corner → ℕ
number_of (on_left z) = z
number_of (on_right z) = z

-- the step after s, to a corner: it takes the place of the left end of s, or of the right one
abbrev pub next_step : ℕ × ℕ → Corner → ℕ × ℕ
next_step s (on_left z) = (z, s.1)
next_step s (on_right z) = (s.0, z)

-- the steps after s, through these corners
abbrev pub steps_after : ℕ × ℕ → List Corner → List (ℕ × ℕ)
steps_after s [] = []
steps_after s (c ∷ cs) = next_step s c ∷ steps_after (next_step s c) cs

-- the walk from ab to p has the step s, and z is the corner of the triangle there
pub record IsStepTo (ps : List Point) (tris : List Tri) (a b p : ℕ) (s : ℕ × ℕ) (z : ℕ) : Type 0 where
  pub step : IsStep (point_at ps a) (point_at ps b) (point_at ps p) (point_at ps s.0) (point_at ps s.1)
  pub triangle : HasTriangle tris s z

-- From the step s the walk from ab to p goes through these corners and then to q. Each is the corner of the triangle on the
-- step before it, and q is the first that lies in the disc over ab.
abbrev pub IsWalk : List Point → List Tri → ℕ → ℕ → ℕ → ℕ × ℕ → List Corner → ℕ → Type 0
IsWalk ps tris a b p s [] q = IsStepTo ps tris a b p s q × IsInDisc (point_at ps a) (point_at ps b) (point_at ps q)
IsWalk ps tris a b p s (c ∷ cs) q =
    IsStepTo ps tris a b p s (number_of c) × (¬ IsInDisc (point_at ps a) (point_at ps b) (point_at ps (number_of c)))
    × IsWalk ps tris a b p (next_step s c) cs q

-- a walk from ab
pub record Walk (ps : List Point) (tris : List Tri) (a b : ℕ) : Type 0 where
  pub goal : ℕ
  pub is_goal : IsGoal ps a b goal
  pub corners : List Corner
  pub last : ℕ
  pub is_walk : IsWalk ps tris a b goal (a, b) corners last

-- s is a side of the triangle t, in its turn
abbrev pub HasSide : Tri → ℕ × ℕ → Type 0
HasSide t s = (z : ℕ) × HasCorners t s.0 s.1 z

-- no triangle has two of these steps for sides, so a walk crosses it once
abbrev pub AreCrossedOnce : List (ℕ × ℕ) → Type 0
AreCrossedOnce steps = AllPairs (λ s t. (x : Tri) → HasSide x s → ¬ HasSide x t) steps
