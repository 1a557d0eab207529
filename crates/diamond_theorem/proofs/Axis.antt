-- How far points lie along an edge is where they lie from a line across it. So what holds of turns holds of inner products.
use Rattle.std.proofs.Common.{◌≡◌, ℕ, ◌+◌, ℤ, pos, ◌+ℤ◌, ◌-ℤ◌, ◌*ℤ◌, [], ◌∷◌, arith}
use Rattle.exact_predicates.specs.declared.point.Point.{Point}
use Rattle.exact_predicates.specs.Plane.{orient, dot}
use Rattle.exact_predicates.proofs.Barycentric.{weighed, barycentric_orient}
use Rattle.exact_predicates.proofs.HalfPlane.{cross_four}
use Rattle.exact_predicates.proofs.Orientation.{coordinates}
use Rattle.exact_predicates.proofs.Ring.{Term, var, num, plus, less, times, ring}

-- Pluecker's relation: seen from o, the turns between four points in pairs
pub orient_five : (o a b c d : Point) → orient o a c *ℤ orient o b d ≡ (orient o a b *ℤ orient o c d) +ℤ (orient o a d *ℤ orient o b c)
unfolding orient
orient_five o a b c d = cross_four (a.x -ℤ o.x) (a.y -ℤ o.y) (b.x -ℤ o.x) (b.y -ℤ o.y) (c.x -ℤ o.x) (c.y -ℤ o.y) (d.x -ℤ o.x) (d.y -ℤ o.y)

-- the term of `dot` of three points, whose coordinates are the variables from i, j and k on
abbrev pub dot_term : ℕ → ℕ → ℕ → Term
dot_term i j k = plus (times (less (var j) (var i)) (less (var k) (var i))) (times (less (var (j + 1)) (var (i + 1))) (less (var (k + 1)) (var (i + 1))))

-- the line through o across the edge ab runs from o to this point: o moved by the edge, turned by a quarter to the right
abbrev pub across_at : Point → Point → Point → Point
across_at a b o = record { id = 0; x = o.x +ℤ (b.y -ℤ a.y); y = o.y -ℤ (b.x -ℤ a.x) }

-- how much farther along the edge ab the point z lies than o
abbrev pub along : Point → Point → Point → Point → ℤ
along a b o z = dot a b z -ℤ dot a b o

pub along_as_orient : (a b o z : Point) → along a b o z ≡ orient o (across_at a b o) z
unfolding dot orient
along_as_orient a b o z =
    ring (coordinates (a ∷ b ∷ o ∷ z ∷ []))
    (less (dot_term 0 2 6) (dot_term 0 2 4))
    (less (times (less (plus (var 4) (less (var 3) (var 1))) (var 4)) (less (var 7) (var 5))) (times (less (less (var 5) (less (var 2) (var 0))) (var 5)) (less (var 6) (var 4))))
    (omega arith)

pub dot_as_orient : (s t r : Point) → dot s t r ≡ orient s (across_at s t s) r
unfolding dot orient
dot_as_orient s t r =
    ring (coordinates (s ∷ t ∷ r ∷ []))
    (dot_term 0 2 4)
    (less (times (less (plus (var 0) (less (var 3) (var 1))) (var 0)) (less (var 5) (var 1))) (times (less (less (var 1) (less (var 2) (var 0))) (var 1)) (less (var 4) (var 0))))
    (omega arith)

-- the turns of three points seen from o, by how far along an edge they lie
pub orient_along : (a b o c d f : Point) → along a b o d *ℤ orient o c f ≡ (along a b o c *ℤ orient o d f) +ℤ (along a b o f *ℤ orient o c d)
orient_along a b o c d f = rw (along_as_orient a b o d, along_as_orient a b o c, along_as_orient a b o f) (orient_five o (across_at a b o) c d f)

-- the barycentric identity for inner products
pub barycentric_dot : (a b c r s t : Point) → orient a b c *ℤ dot s t r ≡ weighed (orient b c r) (orient c a r) (orient a b r) (dot s t a) (dot s t b) (dot s t c)
barycentric_dot a b c r s t =
    rw (dot_as_orient s t r, dot_as_orient s t a, dot_as_orient s t b, dot_as_orient s t c) (barycentric_orient a b c r s (across_at s t s))

-- and for how far along an edge points lie
pub barycentric_along : (a b o c d e r : Point) → orient c d e *ℤ along a b o r ≡ weighed (orient d e r) (orient e c r) (orient c d r) (along a b o c) (along a b o d) (along a b o e)
barycentric_along a b o c d e r =
    rw (along_as_orient a b o r, along_as_orient a b o c, along_as_orient a b o d, along_as_orient a b o e) (barycentric_orient c d e r o (across_at a b o))

-- an edge begins at its own start
pub dot_start : (a b : Point) → dot a b a ≡ pos 0
unfolding dot
dot_start a b = ring (coordinates (a ∷ b ∷ [])) (dot_term 0 2 0) (num (pos 0)) (omega arith)
