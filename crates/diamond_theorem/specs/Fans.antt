-- Fans of triangles at a point, and their inner edges.
use Rattle.std.specs.Prelude.{◌≡◌, ⊤, List, [], ◌∷◌, ◌++◌, pos, ◌≤ℤ◌, ◌<ℤ◌}
use Rattle.exact_predicates.specs.declared.point.Point.{Point}
use Rattle.exact_predicates.specs.Plane.{Crosses, orient}
use Rattle.diamond_theorem.specs.Discs.{power}

-- the points x and then ys are a fan at v: the triangles at v from each to the next are counter-clockwise
abbrev pub IsFan : Point → Point → List Point → Type 0
IsFan v x [] = ⊤
IsFan v x (y ∷ ys) = (pos 0 <ℤ orient v x y) × IsFan v y ys

-- the last of the points x and then ys
abbrev pub last_of : Point → List Point → Point
last_of x [] = x
last_of x (y ∷ ys) = last_of y ys

-- z is not farther from the middle of ab than v: the power of a point grows with its distance from there
abbrev pub IsInward : Point → Point → Point → Point → Type 0
IsInward a b v z = power a b z ≤ℤ power a b v

-- an inner edge of a fan at v can be flipped: where x, y and z follow one another, the edge from v to y crosses that from x to z
pub record HasFlip (v : Point) (fan : List Point) : Type 0 where
  pub before : List Point
  pub x : Point
  pub y : Point
  pub z : Point
  pub after : List Point
  pub follow : fan ≡ before ++ x ∷ y ∷ z ∷ after
  pub crosses : Crosses v y x z
