-- Sleeves: the triangles of a walk by their corners, from an edge ab to a point q of the disc over it.
use Rattle.std.specs.Prelude.{◌≡◌, ◌⊎◌, ℕ, List, [], ◌∷◌, ◌++◌, All, pos, ◌≤ℤ◌, ◌<ℤ◌}
use Rattle.exact_predicates.specs.declared.point.Point.{Point}
use Rattle.exact_predicates.specs.Plane.{Crosses, orient}
use Rattle.diamond_theorem.specs.Discs.{IsInDisc, power}
use Rattle.diamond_theorem.specs.Walks.{Corner, on_left, on_right, next_step, number_of}

-- the step to which one comes from s through these corners
abbrev pub step_after : ℕ × ℕ → List Corner → ℕ × ℕ
step_after s [] = s
step_after s (c ∷ cs) = step_after (next_step s c) cs

-- the number of the first of these corners, or else q
abbrev pub first_or : List Corner → ℕ → ℕ
first_or [] q = q
first_or (c ∷ cs) q = number_of c

-- the end of the step s that a corner takes the place of
abbrev pub end_left : ℕ × ℕ → Corner → ℕ
end_left s (on_left z) = s.0
end_left s (on_right z) = s.1

-- from the step s, through these corners to q: each triangle, of a step and the corner after it, is counter-clockwise
abbrev pub AreTriangles : (ℕ → Point) → ℕ × ℕ → List Corner → ℕ → Type 0
AreTriangles at s [] q = pos 0 <ℤ orient (at s.0) (at s.1) (at q)
AreTriangles at s (c ∷ cs) q = (pos 0 <ℤ orient (at s.0) (at s.1) (at (number_of c))) × AreTriangles at (next_step s c) cs q

-- a corner lies on its own side of the lines from a and from b to q
abbrev pub IsOnItsSide : Point → Point → Point → (ℕ → Point) → Corner → Type 0
IsOnItsSide a b q at (on_left z) = (pos 0 <ℤ orient a q (at z)) × (pos 0 <ℤ orient b q (at z))
IsOnItsSide a b q at (on_right z) = (orient a q (at z) <ℤ pos 0) × (orient b q (at z) <ℤ pos 0)

-- a sleeve from the edge ab through these corners to q
pub record IsSleeve (at : ℕ → Point) (a b : ℕ) (corners : List Corner) (q : ℕ) : Type 0 where
  pub base : pos 0 <ℤ orient (at a) (at b) (at q)
  pub in_disc : IsInDisc (at a) (at b) (at q)
  pub triangles : AreTriangles at (a, b) corners q
  pub sides : All (IsOnItsSide (at a) (at b) (at q) at) corners
  pub outside : All (λ c. ¬ IsInDisc (at a) (at b) (at (number_of c))) corners

-- the step from s to the corner c can be flipped, where z is the next corner: it crosses the edge between the two corners
-- across from it
abbrev pub IsFlippable : (ℕ → Point) → ℕ × ℕ → Corner → ℕ → Type 0
IsFlippable at s c z =
    let t = next_step s c in
    Crosses (at t.0) (at t.1) (at (end_left s c)) (at z)

-- a step of the sleeve can be flipped, and no corner is farther from the middle of ab than one of its ends
pub record HasFarthestFlip (at : ℕ → Point) (a b : ℕ) (corners : List Corner) (q : ℕ) : Type 0 where
  pub before : List Corner
  pub corner : Corner
  pub after : List Corner
  pub split : corners ≡ before ++ corner ∷ after
  pub flippable : IsFlippable at (step_after (a, b) before) corner (first_or after q)
  pub far : ℕ
  pub is_end : (far ≡ (next_step (step_after (a, b) before) corner).0) ⊎ (far ≡ (next_step (step_after (a, b) before) corner).1)
  pub farthest : All (λ c. power (at a) (at b) (at (number_of c)) ≤ℤ power (at a) (at b) (at far)) corners
