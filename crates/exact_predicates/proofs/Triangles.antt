-- Where the points of a closed triangle lie: on the side of a line where its corners do, within the box of its corners, and
-- between its least and its greatest corner in the order of points.
use Rattle.std.proofs.Common.{◌≡◌, ℤ, pos, ◌-ℤ◌, ◌≤ℤ◌, ◌<ℤ◌, arith, [], ◌∷◌, sym, ⊎_elim, inl, inr}
use Rattle.std.proofs.lemmas.Int.{ints}
use Rattle.exact_predicates.specs.declared.point.Point.{Point}
use Rattle.exact_predicates.specs.Plane.{orient, Precedes, IsInClosedTriangle}
use Rattle.exact_predicates.proofs.Barycentric.{barycentric_orient}
use Rattle.exact_predicates.proofs.HalfPlane.{turn_transitive, turn_back_transitive}
use Rattle.exact_predicates.proofs.IntSigns.{mul-nonneg, nonneg-from-mul}
use Rattle.exact_predicates.proofs.Order.{Precedes-trans, Precedes-cases}
use Rattle.exact_predicates.proofs.Orientation.{orient_turned, orient_swapped, orient_swapped_last, orient_four}
use Rattle.exact_predicates.proofs.Ring.{var, num, less, times, ring}

-- where no corner lies to the right of a line, no point of the triangle does
pub triangle_left_of : (a b c r s t : Point) → pos 0 <ℤ orient a b c → IsInClosedTriangle a b c r
    → pos 0 ≤ℤ orient s t a → pos 0 ≤ℤ orient s t b → pos 0 ≤ℤ orient s t c → pos 0 ≤ℤ orient s t r
triangle_left_of a b c r s t area i ha hb hc =
    let pa = mul-nonneg (orient b c r) (orient s t a) i.left_of_bc ha in
    let pb = mul-nonneg (orient c a r) (orient s t b) i.left_of_ca hb in
    let pc = mul-nonneg (orient a b r) (orient s t c) i.left_of_ab hc in
    nonneg-from-mul (orient a b c) (orient s t r) area (rw (barycentric_orient a b c r s t) (omega (arith, ints)))

-- a point by its coordinates alone
at : ℤ → ℤ → Point
at x y = record { id = 0; x = x; y = y }

-- what lies to the left of the line upwards through x has no greater x, and so on round
upwards : (x : ℤ) (r : Point) → orient (at x (pos 0)) (at x (pos 1)) r ≡ x -ℤ r.x
unfolding at orient
upwards x r =
    ring (x ∷ r.x ∷ r.y ∷ [])
    (less (times (less (var 0) (var 0)) (less (var 2) (num (pos 0)))) (times (less (num (pos 1)) (num (pos 0))) (less (var 1) (var 0))))
    (less (var 0) (var 1))
    (omega arith)

downwards : (x : ℤ) (r : Point) → orient (at x (pos 1)) (at x (pos 0)) r ≡ r.x -ℤ x
downwards x r = omega (arith, ints, upwards x r, orient_swapped (at x (pos 0)) (at x (pos 1)) r)

rightwards : (y : ℤ) (r : Point) → orient (at (pos 0) y) (at (pos 1) y) r ≡ r.y -ℤ y
unfolding at orient
rightwards y r =
    ring (y ∷ r.x ∷ r.y ∷ [])
    (less (times (less (num (pos 1)) (num (pos 0))) (less (var 2) (var 0))) (times (less (var 0) (var 0)) (less (var 1) (num (pos 0)))))
    (less (var 2) (var 0))
    (omega arith)

leftwards : (y : ℤ) (r : Point) → orient (at (pos 1) y) (at (pos 0) y) r ≡ y -ℤ r.y
leftwards y r = omega (arith, ints, rightwards y r, orient_swapped (at (pos 0) y) (at (pos 1) y) r)

-- at least y
pub triangle_y_at_least : (a b c r : Point) (y : ℤ) → pos 0 <ℤ orient a b c → IsInClosedTriangle a b c r → y ≤ℤ a.y → y ≤ℤ b.y → y ≤ℤ c.y → y ≤ℤ r.y
triangle_y_at_least a b c r y area i ha hb hc =
    let h = triangle_left_of a b c r (at (pos 0) y) (at (pos 1) y) area i (rw (rightwards y a) (omega (arith, ints))) (rw (rightwards y b) (omega (arith, ints))) (rw (rightwards y c) (omega (arith, ints))) in
    omega (arith, ints, rightwards y r)

-- and at most y
pub triangle_y_at_most : (a b c r : Point) (y : ℤ) → pos 0 <ℤ orient a b c → IsInClosedTriangle a b c r → a.y ≤ℤ y → b.y ≤ℤ y → c.y ≤ℤ y → r.y ≤ℤ y
triangle_y_at_most a b c r y area i ha hb hc =
    let h = triangle_left_of a b c r (at (pos 1) y) (at (pos 0) y) area i (rw (leftwards y a) (omega (arith, ints))) (rw (leftwards y b) (omega (arith, ints))) (rw (leftwards y c) (omega (arith, ints))) in
    omega (arith, ints, leftwards y r)

-- turning to the left from corner to corner round a point of the triangle is not transitive
not_transitive : (a b c r : Point) → pos 0 <ℤ orient a b c → IsInClosedTriangle a b c r
    → (pos 0 ≤ℤ orient r a b → pos 0 ≤ℤ orient r b c → pos 0 ≤ℤ orient r a c)
    → (pos 0 ≤ℤ orient r b c → pos 0 ≤ℤ orient r c a → pos 0 ≤ℤ orient r b a)
    → (pos 0 ≤ℤ orient r c a → pos 0 ≤ℤ orient r a b → pos 0 ≤ℤ orient r c b) → ⊥
not_transitive a b c r area i over_b over_c over_a =
    let ab : pos 0 ≤ℤ orient r a b = rw (← orient_turned r a b) i.left_of_ab in
    let bc : pos 0 ≤ℤ orient r b c = rw (← orient_turned r b c) i.left_of_bc in
    let ca : pos 0 ≤ℤ orient r c a = rw (← orient_turned r c a) i.left_of_ca in
    let ac = over_b ab bc in
    let ba = over_c bc ca in
    let cb = over_a ca ab in
    omega (arith, ints, orient_turned r a b, orient_turned r b c, orient_turned r c a, orient_swapped_last r a c, orient_swapped_last r b a, orient_swapped_last r c b, orient_four a b c r)

-- a point after all corners is not in the triangle
pub later_outside : (a b c r : Point) → Precedes a r → Precedes b r → Precedes c r → pos 0 <ℤ orient a b c → ¬ IsInClosedTriangle a b c r
later_outside a b c r ar br cr area i =
    not_transitive a b c r area i (turn_back_transitive r a b c ar br cr) (turn_back_transitive r b c a br cr ar) (turn_back_transitive r c a b cr ar br)

-- and neither is a point before them all
pub earlier_outside : (a b c r : Point) → Precedes r a → Precedes r b → Precedes r c → pos 0 <ℤ orient a b c → ¬ IsInClosedTriangle a b c r
earlier_outside a b c r ra rb rc area i =
    not_transitive a b c r area i (turn_transitive r a b c ra rb rc) (turn_transitive r b c a rb rc ra) (turn_transitive r c a b rc ra rb)
