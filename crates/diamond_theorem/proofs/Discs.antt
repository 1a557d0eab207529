-- The disc over an edge: it is convex, has the diamond in it, and lies between the ends of the edge.
use Rattle.std.proofs.Common.{◌≡◌, ℤ, pos, ◌+ℤ◌, ◌-ℤ◌, ◌*ℤ◌, ◌≤ℤ◌, ◌<ℤ◌, [], ◌∷◌, arith, sym, ◌∙◌}
use Rattle.std.proofs.lemmas.Int.{ints, by_lt_z}
use Rattle.exact_predicates.specs.declared.point.Point.{Point}
use Rattle.exact_predicates.specs.Plane.{orient, dot}
use Rattle.exact_predicates.proofs.Barycentric.{weighed}
use Rattle.exact_predicates.proofs.Blocking.{dot_parts}
use Rattle.exact_predicates.proofs.HalfPlane.{cross}
use Rattle.exact_predicates.proofs.IntSigns.{square-nonneg, mul-nonneg, mul-pos}
use Rattle.exact_predicates.proofs.Orientation.{coordinates}
use Rattle.exact_predicates.proofs.Ring.{var, num, plus, less, times, ring}
use Rattle.diamond_theorem.specs.Discs.{power}
use Rattle.diamond_theorem.specs.Laws.{DiamondsAreInDiscs, DiscsAreConvex}
use Rattle.diamond_theorem.proofs.Axis.{dot_term, barycentric_dot, dot_start}
use Rattle.diamond_theorem.proofs.Signs.{mul-nonpos, mul-neg, mul-zero, pos-from-pos}

-- the ends of an edge lie on the circle
pub power_start : (a b : Point) → power a b a ≡ pos 0
unfolding dot
power_start a b = ring (coordinates (a ∷ b ∷ [])) (dot_term 0 0 2) (num (pos 0)) (omega arith)

pub power_end : (a b : Point) → power a b b ≡ pos 0
unfolding dot
power_end a b = ring (coordinates (a ∷ b ∷ [])) (dot_term 2 0 2) (num (pos 0)) (omega arith)

pub dot_square : (p r : Point) → pos 0 ≤ℤ dot p r r
unfolding dot
dot_square p r = omega (arith, ints, square-nonneg (r.x -ℤ p.x), square-nonneg (r.y -ℤ p.y))

-- from z twice the way on from the middle of ab to z
abbrev pub away : Point → Point → Point → Point
away a b z = record { id = 0; x = z.x +ℤ ((z.x -ℤ a.x) +ℤ (z.x -ℤ b.x)); y = z.y +ℤ ((z.y -ℤ a.y) +ℤ (z.y -ℤ b.y)) }

-- how the power grows from z to c
pub power_grows : (a b z c : Point) → power a b c ≡ power a b z +ℤ (dot z c c +ℤ dot z (away a b z) c)
unfolding dot
power_grows a b z c =
    ring (coordinates (a ∷ b ∷ z ∷ c ∷ []))
    (dot_term 6 0 2)
    (plus (dot_term 4 0 2) (plus (dot_term 4 6 6) (plus
    (times (less (plus (var 4) (plus (less (var 4) (var 0)) (less (var 4) (var 2)))) (var 4)) (less (var 6) (var 4)))
    (times (less (plus (var 5) (plus (less (var 5) (var 1)) (less (var 5) (var 3)))) (var 5)) (less (var 7) (var 5))))))
    (omega arith)

-- three numbers that grow from one by two parts each, weighed
weighed_growth : (u v w g d e f p q r : ℤ) → weighed u v w (g +ℤ (d +ℤ p)) (g +ℤ (e +ℤ q)) (g +ℤ (f +ℤ r)) ≡ ((u +ℤ (v +ℤ w)) *ℤ g) +ℤ (weighed u v w d e f +ℤ weighed u v w p q r)
weighed_growth u v w g d e f p q r =
    ring (u ∷ v ∷ w ∷ g ∷ d ∷ e ∷ f ∷ p ∷ q ∷ r ∷ [])
    (plus (times (var 0) (plus (var 3) (plus (var 4) (var 7)))) (plus (times (var 1) (plus (var 3) (plus (var 5) (var 8)))) (times (var 2) (plus (var 3) (plus (var 6) (var 9))))))
    (plus (times (plus (var 0) (plus (var 1) (var 2))) (var 3))
    (plus (plus (times (var 0) (var 4)) (plus (times (var 1) (var 5)) (times (var 2) (var 6)))) (plus (times (var 0) (var 7)) (plus (times (var 1) (var 8)) (times (var 2) (var 9))))))
    (omega arith)

-- The powers of the corners, weighed, are that of z and squares: the ways from z come to nothing.
weighed_powers : (a b c d e z : Point) → weighed (orient d e z) (orient e c z) (orient c d z) (power a b c) (power a b d) (power a b e)
    ≡ ((orient d e z +ℤ (orient e c z +ℤ orient c d z)) *ℤ power a b z) +ℤ weighed (orient d e z) (orient e c z) (orient c d z) (dot z c c) (dot z d d) (dot z e e)
weighed_powers a b c d e z =
    let none : weighed (orient d e z) (orient e c z) (orient c d z) (dot z (away a b z) c) (dot z (away a b z) d) (dot z (away a b z) e) ≡ pos 0
    = sym (barycentric_dot c d e z z (away a b z)) ∙ mul-zero (orient c d e) (dot z (away a b z) z) (dot_start z (away a b z)) in
    let sum = weighed_growth (orient d e z) (orient e c z) (orient c d z) (power a b z) (dot z c c) (dot z d d) (dot z e e) (dot z (away a b z) c) (dot z (away a b z) d) (dot z (away a b z) e) in
    rw (power_grows a b z c, power_grows a b z d, power_grows a b z e) (omega (arith, ints, sum, none))

pub disc_convex : DiscsAreConvex
disc_convex a b c d e z gc gd ge i we =
    let pc = mul-nonpos (orient d e z) (power a b c) i.left_of_bc gc in
    let pd = mul-nonpos (orient e c z) (power a b d) i.left_of_ca gd in
    let pe = mul-neg (orient c d z) (power a b e) we ge in
    let sc = mul-nonneg (orient d e z) (dot z c c) i.left_of_bc (dot_square z c) in
    let sd = mul-nonneg (orient e c z) (dot z d d) i.left_of_ca (dot_square z d) in
    let se = mul-nonneg (orient c d z) (dot z e e) i.left_of_ab (dot_square z e) in
    by_lt_z (power a b z) (pos 0)
    (λ h. h)
    (λ h. let wc = i.left_of_bc in let wd = i.left_of_ca in
    let m = mul-nonneg (orient d e z +ℤ (orient e c z +ℤ orient c d z)) (power a b z) (omega (arith, ints)) h in
    absurd (omega (arith, ints, weighed_powers a b c d e z)))

-- Lagrange's identity, by the parts of the edge
by_parts : (ux uy vx vy : ℤ) → ((ux *ℤ ux) +ℤ (uy *ℤ uy)) *ℤ (((vx *ℤ vx) +ℤ (vy *ℤ vy)) -ℤ ((ux *ℤ vx) +ℤ (uy *ℤ vy)))
    ≡ (cross ux uy vx vy *ℤ cross ux uy vx vy) -ℤ (((ux *ℤ vx) +ℤ (uy *ℤ vy)) *ℤ (((ux *ℤ ux) +ℤ (uy *ℤ uy)) -ℤ ((ux *ℤ vx) +ℤ (uy *ℤ vy))))
by_parts ux uy vx vy =
    ring (ux ∷ uy ∷ vx ∷ vy ∷ [])
    (times (plus (times (var 0) (var 0)) (times (var 1) (var 1))) (less (plus (times (var 2) (var 2)) (times (var 3) (var 3))) (plus (times (var 0) (var 2)) (times (var 1) (var 3)))))
    (less
    (times (less (times (var 0) (var 3)) (times (var 1) (var 2))) (less (times (var 0) (var 3)) (times (var 1) (var 2))))
    (times (plus (times (var 0) (var 2)) (times (var 1) (var 3))) (less (plus (times (var 0) (var 0)) (times (var 1) (var 1))) (plus (times (var 0) (var 2)) (times (var 1) (var 3))))))
    (omega arith)

by_parts_of_points : (a b z : Point) → dot a b b *ℤ (dot a z z -ℤ dot a b z) ≡ (orient a b z *ℤ orient a b z) -ℤ (dot a b z *ℤ (dot a b b -ℤ dot a b z))
unfolding dot orient
by_parts_of_points a b z = by_parts (b.x -ℤ a.x) (b.y -ℤ a.y) (z.x -ℤ a.x) (z.y -ℤ a.y)

power_is : (a b z : Point) → power a b z ≡ dot a z z -ℤ dot a b z
unfolding dot
power_is a b z = ring (coordinates (a ∷ b ∷ z ∷ [])) (dot_term 4 0 2) (less (dot_term 0 4 4) (dot_term 0 2 4)) (omega arith)

-- the power of a point by its height over the edge and the two parts of the edge below it
pub power_by_parts : (a b z : Point) → dot a b b *ℤ power a b z ≡ (orient a b z *ℤ orient a b z) -ℤ (dot a b z *ℤ dot b a z)
power_by_parts a b z =
    let part : dot b a z ≡ dot a b b -ℤ dot a b z = omega (arith, ints, dot_parts a b z) in
    rw (power_is a b z, part) (by_parts_of_points a b z)

-- c^2 < x y where 5 c is less than 4 x and than 4 y
square_less : (c x y : ℤ) → pos 0 ≤ℤ c → (pos 5 *ℤ c) <ℤ (pos 4 *ℤ x) → (pos 5 *ℤ c) <ℤ (pos 4 *ℤ y) → (c *ℤ c) <ℤ (x *ℤ y)
square_less c x y h l m =
    let p = mul-pos (x -ℤ c) y (omega (arith, ints)) (omega (arith, ints)) in
    let q = mul-nonneg c (y -ℤ c) h (omega (arith, ints)) in
    let e : (x *ℤ y) -ℤ (c *ℤ c) ≡ ((x -ℤ c) *ℤ y) +ℤ (c *ℤ (y -ℤ c))
    = ring (c ∷ x ∷ y ∷ []) (less (times (var 1) (var 2)) (times (var 0) (var 0))) (plus (times (less (var 1) (var 0)) (var 2)) (times (var 0) (less (var 2) (var 0)))) (omega arith) in
    omega (arith, ints)

pub diamond_in_disc : DiamondsAreInDiscs
diamond_in_disc a b z h =
    let up = h.left in
    let at_a = h.angle_at_p in
    let at_b = h.angle_at_q in
    let low = square_less (orient a b z) (dot a b z) (dot b a z) (omega (arith, ints)) at_a at_b in
    by_lt_z (power a b z) (pos 0)
    (λ k. k)
    (λ k. let m = mul-nonneg (dot a b b) (power a b z) (dot_square a b) k in
    absurd (omega (arith, ints, power_by_parts a b z)))

-- a point of the disc lies between the ends of the edge, along it
pub disc_between : (a b z : Point) → pos 0 <ℤ dot a b b → power a b z <ℤ pos 0 → (pos 0 <ℤ dot a b z) × (pos 0 <ℤ dot b a z)
disc_between a b z s h =
    let m = mul-neg (dot a b b) (power a b z) s h in
    let c = square-nonneg (orient a b z) in
    let product : pos 0 <ℤ (dot a b z *ℤ dot b a z) = omega (arith, ints, power_by_parts a b z) in
    by_lt_z (pos 0) (dot a b z)
    (λ x. (x, pos-from-pos (dot a b z) (dot b a z) (omega (arith, ints)) product))
    (λ x. let n = mul-nonpos (dot b a z) (dot a b z) (omega (arith, ints, dot_parts a b z)) x in absurd (omega (arith, ints)))
