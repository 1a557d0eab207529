-- Where a point lies from a step, by how far it lies along the edge and across it.
use Rattle.std.proofs.Common.{◌≡◌, ℤ, pos, ◌+ℤ◌, ◌-ℤ◌, ◌*ℤ◌, [], ◌∷◌, arith}
use Rattle.std.proofs.lemmas.Int.{ints}
use Rattle.exact_predicates.specs.declared.point.Point.{Point}
use Rattle.exact_predicates.specs.Plane.{orient, dot}
use Rattle.exact_predicates.proofs.Barycentric.{weighed}
use Rattle.exact_predicates.proofs.Blocking.{dot_parts}
use Rattle.exact_predicates.proofs.Orientation.{coordinates, orient_term, orient_swapped_last}
use Rattle.exact_predicates.proofs.Ring.{var, num, plus, less, times, ring}
use Rattle.diamond_theorem.proofs.Axis.{across_at, along, dot_as_orient, dot_term, orient_five}

-- the point a moved by the step from l to r
abbrev moved : Point → Point → Point → Point
moved a l r = record { id = 0; x = a.x +ℤ (r.x -ℤ l.x); y = a.y +ℤ (r.y -ℤ l.y) }

orient_moved : (a l r z : Point) → orient a (moved a l r) z ≡ orient l r z -ℤ orient l r a
unfolding orient
orient_moved a l r z =
    ring (coordinates (a ∷ l ∷ r ∷ z ∷ []))
    (less (times (less (plus (var 0) (less (var 4) (var 2))) (var 0)) (less (var 7) (var 1))) (times (less (plus (var 1) (less (var 5) (var 3))) (var 1)) (less (var 6) (var 0))))
    (less (orient_term 2 4 6) (orient_term 2 4 0))
    (omega arith)

dot_moved : (a b l r : Point) → dot a b (moved a l r) ≡ along a b l r
unfolding dot
dot_moved a b l r =
    ring (coordinates (a ∷ b ∷ l ∷ r ∷ []))
    (plus
    (times (less (var 2) (var 0)) (less (plus (var 0) (less (var 6) (var 4))) (var 0)))
    (times (less (var 3) (var 1)) (less (plus (var 1) (less (var 7) (var 5))) (var 1))))
    (less (dot_term 0 2 6) (dot_term 0 2 4))
    (omega arith)

-- the same numbers
by_numbers : (s x y m n d f : ℤ) → (f -ℤ m) *ℤ s ≡ ((pos 0 -ℤ d) *ℤ (pos 0 -ℤ y)) +ℤ ((n -ℤ m) *ℤ x) → s *ℤ f ≡ weighed (s -ℤ x) x y m n d
by_numbers s x y m n d f e =
    let same = ring (s ∷ x ∷ y ∷ m ∷ n ∷ d ∷ f ∷ [])
    (less (times (var 0) (var 6)) (plus (times (less (var 0) (var 1)) (var 3)) (plus (times (var 1) (var 4)) (times (var 2) (var 5)))))
    (less (times (less (var 6) (var 3)) (var 0)) (plus (times (less (num (pos 0)) (var 5)) (less (num (pos 0)) (var 2))) (times (less (var 4) (var 3)) (var 1))))
    (omega arith) in
    omega (arith, ints, same)

-- A step is linear over the edge: where z lies from it is weighed by where the ends of the edge do, and by how long the step is
-- along the edge.
pub orient_over : (a b l r z : Point) → dot a b b *ℤ orient l r z ≡ weighed (dot b a z) (dot a b z) (orient a b z) (orient l r a) (orient l r b) (along a b l r)
orient_over a b l r z =
    let far : dot b a z ≡ dot a b b -ℤ dot a b z = omega (arith, ints, dot_parts a b z) in
    rw far
    (by_numbers (dot a b b) (dot a b z) (orient a b z) (orient l r a) (orient l r b) (along a b l r) (orient l r z) five)
  where
    five : (orient l r z -ℤ orient l r a) *ℤ dot a b b ≡ ((pos 0 -ℤ along a b l r) *ℤ (pos 0 -ℤ orient a b z)) +ℤ ((orient l r b -ℤ orient l r a) *ℤ dot a b z)
    five =
        let m : pos 0 -ℤ along a b l r ≡ orient a (moved a l r) (across_at a b a) = omega (arith, ints, dot_moved a b l r, dot_as_orient a b (moved a l r), orient_swapped_last a (across_at a b a) (moved a l r)) in
        let up : pos 0 -ℤ orient a b z ≡ orient a z b = omega (arith, ints, orient_swapped_last a b z) in
        rw (m, up, dot_as_orient a b b, dot_as_orient a b z, ← orient_moved a l r z, ← orient_moved a l r b) (orient_five a (moved a l r) (across_at a b a) z b)
