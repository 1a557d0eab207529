-- The disc over an edge: the one that has the edge for its diameter.
use Rattle.std.specs.Prelude.{ℤ, pos, ◌<ℤ◌}
use Rattle.exact_predicates.specs.declared.point.Point.{Point}
use Rattle.exact_predicates.specs.Plane.{dot}

-- the power of z with respect to the circle with the diameter ab: how far z lies outside, negative inside
abbrev pub power : Point → Point → Point → ℤ
power a b z = dot z a b

-- z lies in the open disc over ab
abbrev pub IsInDisc : Point → Point → Point → Type 0
IsInDisc a b z = power a b z <ℤ pos 0
