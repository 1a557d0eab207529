-- Barycentric coordinates: a point weighs the corners of a triangle by the triangles that it makes with the sides across from
-- them. Each measure of points that is linear in their coordinates is weighed in the same way.
use Rattle.std.proofs.Common.{◌≡◌, ℕ, ℤ, pos, ◌+ℤ◌, ◌-ℤ◌, ◌*ℤ◌, arith, [], ◌∷◌, ap, ◌∙◌, refl}
use Rattle.std.proofs.lemmas.Int.{ints}
use Rattle.std.proofs.Math.IntN.{*ℤ-zero}
use Rattle.exact_predicates.specs.declared.point.Point.{Point}
use Rattle.exact_predicates.specs.Plane.{orient}
use Rattle.exact_predicates.proofs.Ring.{Term, var, num, plus, less, times, ring}
use Rattle.exact_predicates.proofs.Orientation.{coordinates, orient_term, orient_four}
use Rattle.exact_predicates.proofs.HalfPlane.{cross}

-- three numbers with three weights
abbrev pub weighed : ℤ → ℤ → ℤ → ℤ → ℤ → ℤ → ℤ
weighed wa wb wc a b c = (wa *ℤ a) +ℤ ((wb *ℤ b) +ℤ (wc *ℤ c))

-- the terms of both, for the ring
abbrev cross_term : ℕ → ℕ → ℕ → ℕ → Term
cross_term ax ay bx by = less (times (var ax) (var by)) (times (var ay) (var bx))

abbrev weighed_term : Term → Term → Term → Term → Term → Term → Term
weighed_term wa wb wc a b c = plus (times wa a) (plus (times wb b) (times wc c))

-- three vectors, each weighed by the turn between the two others, make the zero vector
cross_weighed_x : (ax ay bx by cx cy : ℤ) → weighed (cross bx by cx cy) (cross cx cy ax ay) (cross ax ay bx by) ax bx cx ≡ pos 0
cross_weighed_x ax ay bx by cx cy =
    ring (ax ∷ ay ∷ bx ∷ by ∷ cx ∷ cy ∷ [])
    (weighed_term (cross_term 2 3 4 5) (cross_term 4 5 0 1) (cross_term 0 1 2 3) (var 0) (var 2) (var 4))
    (num (pos 0))
    (omega arith)

cross_weighed_y : (ax ay bx by cx cy : ℤ) → weighed (cross bx by cx cy) (cross cx cy ax ay) (cross ax ay bx by) ay by cy ≡ pos 0
cross_weighed_y ax ay bx by cx cy =
    ring (ax ∷ ay ∷ bx ∷ by ∷ cx ∷ cy ∷ [])
    (weighed_term (cross_term 2 3 4 5) (cross_term 4 5 0 1) (cross_term 0 1 2 3) (var 1) (var 3) (var 5))
    (num (pos 0))
    (omega arith)

-- the turn between the vectors to two points, seen from a third
orient_from_third : (p q r : Point) → orient p q r ≡ cross (p.x -ℤ r.x) (p.y -ℤ r.y) (q.x -ℤ r.x) (q.y -ℤ r.y)
unfolding orient
orient_from_third p q r =
    ring (coordinates (p ∷ q ∷ r ∷ [])) (orient_term 0 2 4)
    (less (times (less (var 0) (var 4)) (less (var 3) (var 5))) (times (less (var 1) (var 5)) (less (var 2) (var 4))))
    (omega arith)

-- seen from r, the weighed corners make the zero vector
corners_x : (a b c r : Point) → weighed (orient b c r) (orient c a r) (orient a b r) (a.x -ℤ r.x) (b.x -ℤ r.x) (c.x -ℤ r.x) ≡ pos 0
corners_x a b c r =
    rw (orient_from_third b c r, orient_from_third c a r, orient_from_third a b r)
    (cross_weighed_x (a.x -ℤ r.x) (a.y -ℤ r.y) (b.x -ℤ r.x) (b.y -ℤ r.y) (c.x -ℤ r.x) (c.y -ℤ r.y))

corners_y : (a b c r : Point) → weighed (orient b c r) (orient c a r) (orient a b r) (a.y -ℤ r.y) (b.y -ℤ r.y) (c.y -ℤ r.y) ≡ pos 0
corners_y a b c r =
    rw (orient_from_third b c r, orient_from_third c a r, orient_from_third a b r)
    (cross_weighed_y (a.x -ℤ r.x) (a.y -ℤ r.y) (b.x -ℤ r.x) (b.y -ℤ r.y) (c.x -ℤ r.x) (c.y -ℤ r.y))

weighed_differences : (wa wb wc a b c r : ℤ) → ((wa +ℤ (wb +ℤ wc)) *ℤ r) +ℤ weighed wa wb wc (a -ℤ r) (b -ℤ r) (c -ℤ r) ≡ weighed wa wb wc a b c
weighed_differences wa wb wc a b c r =
    ring (wa ∷ wb ∷ wc ∷ a ∷ b ∷ c ∷ r ∷ [])
    (plus (times (plus (var 0) (plus (var 1) (var 2))) (var 6)) (weighed_term (var 0) (var 1) (var 2) (less (var 3) (var 6)) (less (var 4) (var 6)) (less (var 5) (var 6))))
    (weighed_term (var 0) (var 1) (var 2) (var 3) (var 4) (var 5))
    (omega arith)

-- a measure of the corners that differs from that of r by nothing, where it is weighed, gives that of r
from_differences : (a b c r : Point) (m n k l : ℤ) → weighed (orient b c r) (orient c a r) (orient a b r) (m -ℤ l) (n -ℤ l) (k -ℤ l) ≡ pos 0
    → orient a b c *ℤ l ≡ weighed (orient b c r) (orient c a r) (orient a b r) m n k
from_differences a b c r m n k l e =
    let whole : orient a b c ≡ orient b c r +ℤ (orient c a r +ℤ orient a b r) = omega (arith, ints, orient_four a b c r) in
    let scaled = ap (λ z. z *ℤ l) whole in
    let sum = weighed_differences (orient b c r) (orient c a r) (orient a b r) m n k l in
    omega (arith, ints)

-- the turn from one vector to three others, weighed
weighed_cross : (u v wa wb wc ax ay bx by cx cy : ℤ) → weighed wa wb wc (cross u v ax ay) (cross u v bx by) (cross u v cx cy) ≡ cross u v (weighed wa wb wc ax bx cx) (weighed wa wb wc ay by cy)
weighed_cross u v wa wb wc ax ay bx by cx cy =
    ring (u ∷ v ∷ wa ∷ wb ∷ wc ∷ ax ∷ ay ∷ bx ∷ by ∷ cx ∷ cy ∷ [])
    (weighed_term (var 2) (var 3) (var 4) (cross_term 0 1 5 6) (cross_term 0 1 7 8) (cross_term 0 1 9 10))
    (less (times (var 0) (weighed_term (var 2) (var 3) (var 4) (var 6) (var 8) (var 10))) (times (var 1) (weighed_term (var 2) (var 3) (var 4) (var 5) (var 7) (var 9))))
    (omega arith)

-- how far two points differ in where they lie from a line
orient_difference : (s t p r : Point) → orient s t p -ℤ orient s t r ≡ cross (t.x -ℤ s.x) (t.y -ℤ s.y) (p.x -ℤ r.x) (p.y -ℤ r.y)
unfolding orient
orient_difference s t p r =
    ring (coordinates (s ∷ t ∷ p ∷ r ∷ []))
    (less (orient_term 0 2 4) (orient_term 0 2 6))
    (less (times (less (var 2) (var 0)) (less (var 5) (var 7))) (times (less (var 3) (var 1)) (less (var 4) (var 6))))
    (omega arith)

-- the barycentric identity for where points lie from a line
pub barycentric_orient : (a b c r s t : Point) → orient a b c *ℤ orient s t r ≡ weighed (orient b c r) (orient c a r) (orient a b r) (orient s t a) (orient s t b) (orient s t c)
barycentric_orient a b c r s t =
    from_differences a b c r (orient s t a) (orient s t b) (orient s t c) (orient s t r)
    (rw (orient_difference s t a r, orient_difference s t b r, orient_difference s t c r)
    (weighed_cross (t.x -ℤ s.x) (t.y -ℤ s.y) (orient b c r) (orient c a r) (orient a b r) (a.x -ℤ r.x) (a.y -ℤ r.y) (b.x -ℤ r.x) (b.y -ℤ r.y) (c.x -ℤ r.x) (c.y -ℤ r.y) ∙ none))
  where
    none : cross (t.x -ℤ s.x) (t.y -ℤ s.y)
        (weighed (orient b c r) (orient c a r) (orient a b r) (a.x -ℤ r.x) (b.x -ℤ r.x) (c.x -ℤ r.x))
        (weighed (orient b c r) (orient c a r) (orient a b r) (a.y -ℤ r.y) (b.y -ℤ r.y) (c.y -ℤ r.y)) ≡ pos 0
    none = rw (corners_x a b c r, corners_y a b c r, *ℤ-zero (t.x -ℤ s.x), *ℤ-zero (t.y -ℤ s.y)) refl
