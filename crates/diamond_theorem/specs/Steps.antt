-- Steps of the walk from an edge ab to a point p on its left.
use Rattle.std.specs.Prelude.{◌≡◌, ◌⊎◌, ℤ, pos, ◌+ℤ◌, ◌-ℤ◌, ◌*ℤ◌, ◌≤ℤ◌, ◌<ℤ◌}
use Rattle.exact_predicates.specs.declared.point.Point.{Point}
use Rattle.exact_predicates.specs.Plane.{orient, dot}

-- z lies on the left of the wedge from a and b to p: it is a, or lies strictly to the left of the line from a to p and not to
-- the right of that from b to p
abbrev pub IsOnLeft : Point → Point → Point → Point → Type 0
IsOnLeft a b p z = (z ≡ a) ⊎ ((pos 0 <ℤ orient a p z) × (pos 0 ≤ℤ orient b p z))

-- z lies on the right of the wedge
abbrev pub IsOnRight : Point → Point → Point → Point → Type 0
IsOnRight a b p z = (z ≡ b) ⊎ ((orient b p z <ℤ pos 0) × (orient a p z ≤ℤ pos 0))

-- l to r is a step of the walk from ab to p: it leads from the left of the wedge to its right, with p to its left and neither a
-- nor b to its left
pub record IsStep (a b p l r : Point) : Type 0 where
  pub ahead : pos 0 <ℤ orient l r p
  pub left : IsOnLeft a b p l
  pub right : IsOnRight a b p r
  pub a_behind : orient l r a ≤ℤ pos 0
  pub b_behind : orient l r b ≤ℤ pos 0

-- l to r goes round q: it is a step of the walk from ab to q, and q lies between its ends along ab
pub record IsRound (a b q l r : Point) : Type 0 where
  pub step : IsStep a b q l r
  pub after : dot a b l <ℤ dot a b q
  pub before : dot a b q <ℤ dot a b r

-- How a point lies at one end of an edge: near and far are the parts of the edge below it, from this end and from the other
-- one, and up is its height, each times the length of the edge. It lies within 16/41 of the edge from this end, lower than the
-- line with slope 4/5 from the other end, and not below the edge and its continuation with slope 4/5.
pub record IsLow (near far up : ℤ) : Type 0 where
  pub beside : (pos 25 *ℤ near) <ℤ (pos 16 *ℤ far)
  pub below : (pos 5 *ℤ up) <ℤ (pos 4 *ℤ far)
  pub above : (pos 0 ≤ℤ up) ⊎ ((pos 4 *ℤ near) ≤ℤ (pos 5 *ℤ up))

-- l to r is low over ab: each end lies low at an end of ab, and half-way over ab its line is lower than 2/5 of ab
pub record IsLowStep (a b l r : Point) : Type 0 where
  pub left : IsLow (dot a b l) (dot b a l) (orient a b l)
  pub right : IsLow (dot b a r) (dot a b r) (orient a b r)
  pub half_way : (pos 0 -ℤ (pos 5 *ℤ (orient l r a +ℤ orient l r b))) <ℤ (pos 4 *ℤ (dot a b r -ℤ dot a b l))
