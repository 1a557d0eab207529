-- Differences of coordinates, on their way through the bits of an i64.
use Rattle.std.proofs.Common.{arith, ◌≡◌, ◌+◌, ◌*◌, ◌^◌, ◌≤◌, ℤ, ◌+ℤ◌, ◌-ℤ◌, ◌*ℤ◌, to_z, of_z, unsigned_abs, w64}
use Rattle.std.proofs.lemmas.Int.{ints, unsigned_abs-mul}
use Rattle.std.proofs.lemmas.Nat.{mul-le}
use Rattle.exact_predicates.specs.declared.point.Point.{Point}
use Rattle.exact_predicates.specs.Plane.{IsInRange, orient, dot, d2}
use Rattle.exact_predicates.proofs.Roots.{pow-two}

pub gap_x : (p q : Point) → IsInRange p → IsInRange q → to_z w64 (of_z w64 (to_z w64 (of_z w64 q.x) -ℤ to_z w64 (of_z w64 p.x))) ≡ q.x -ℤ p.x
gap_x p q h k = omega (arith, ints)

pub gap_y : (p q : Point) → IsInRange p → IsInRange q → to_z w64 (of_z w64 (to_z w64 (of_z w64 q.y) -ℤ to_z w64 (of_z w64 p.y))) ≡ q.y -ℤ p.y
gap_y p q h k = omega (arith, ints)

pub width_le : (p q : Point) → IsInRange p → IsInRange q → unsigned_abs (q.x -ℤ p.x) ≤ 2 * 10 ^ 9
width_le p q h k = omega (arith, ints)

pub height_le : (p q : Point) → IsInRange p → IsInRange q → unsigned_abs (q.y -ℤ p.y) ≤ 2 * 10 ^ 9
height_le p q h k = omega (arith, ints)

pub d2_is : (p q : Point) → d2 p q ≡ unsigned_abs (q.x -ℤ p.x) * unsigned_abs (q.x -ℤ p.x) + unsigned_abs (q.y -ℤ p.y) * unsigned_abs (q.y -ℤ p.y)
unfolding d2
d2_is p q = rw (pow-two (unsigned_abs (q.x -ℤ p.x)), pow-two (unsigned_abs (q.y -ℤ p.y))) (omega arith)

pub d2_le : (p q : Point) → IsInRange p → IsInRange q → d2 p q ≤ 8 * 10 ^ 18
d2_le p q h k =
    omega (arith, d2_is p q, mul-le _ _ _ _ (width_le p q h k) (width_le p q h k), mul-le _ _ _ _ (height_le p q h k) (height_le p q h k))

-- the product of two differences of coordinates
pub product_le : (a b : ℤ) → unsigned_abs a ≤ 2 * 10 ^ 9 → unsigned_abs b ≤ 2 * 10 ^ 9 → unsigned_abs (a *ℤ b) ≤ 4 * 10 ^ 18
product_le a b h k = omega (arith, unsigned_abs-mul a b, mul-le _ _ _ _ h k)

pub orient_le : (p q r : Point) → IsInRange p → IsInRange q → IsInRange r → unsigned_abs (orient p q r) ≤ 8 * 10 ^ 18
unfolding orient
orient_le p q r hp hq hr =
    let a = product_le (q.x -ℤ p.x) (r.y -ℤ p.y) (width_le p q hp hq) (height_le p r hp hr) in
    let b = product_le (q.y -ℤ p.y) (r.x -ℤ p.x) (height_le p q hp hq) (width_le p r hp hr) in
    difference ((q.x -ℤ p.x) *ℤ (r.y -ℤ p.y)) ((q.y -ℤ p.y) *ℤ (r.x -ℤ p.x)) a b
  where
    difference : (a b : ℤ) → unsigned_abs a ≤ 4 * 10 ^ 18 → unsigned_abs b ≤ 4 * 10 ^ 18 → unsigned_abs (a -ℤ b) ≤ 8 * 10 ^ 18
    difference a b h k = omega (arith, ints)

pub dot_le : (o p q : Point) → IsInRange o → IsInRange p → IsInRange q → unsigned_abs (dot o p q) ≤ 8 * 10 ^ 18
unfolding dot
dot_le o p q ho hp hq =
    let a = product_le (p.x -ℤ o.x) (q.x -ℤ o.x) (width_le o p ho hp) (width_le o q ho hq) in
    let b = product_le (p.y -ℤ o.y) (q.y -ℤ o.y) (height_le o p ho hp) (height_le o q ho hq) in
    total ((p.x -ℤ o.x) *ℤ (q.x -ℤ o.x)) ((p.y -ℤ o.y) *ℤ (q.y -ℤ o.y)) a b
  where
    total : (a b : ℤ) → unsigned_abs a ≤ 4 * 10 ^ 18 → unsigned_abs b ≤ 4 * 10 ^ 18 → unsigned_abs (a +ℤ b) ≤ 8 * 10 ^ 18
    total a b h k = omega (arith, ints)

-- a number within the bound of a sum of two such products
pub kept : (x : ℤ) → unsigned_abs x ≤ 8 * 10 ^ 18 → to_z w64 (of_z w64 x) ≡ x
kept x h = omega (arith, ints)

-- the product of two differences, on its way through the bits
pub kept_product : (a b : ℤ) → unsigned_abs a ≤ 2 * 10 ^ 9 → unsigned_abs b ≤ 2 * 10 ^ 9 → to_z w64 (of_z w64 (to_z w64 (of_z w64 a) *ℤ to_z w64 (of_z w64 b))) ≡ a *ℤ b
kept_product a b h k = rw (kept a (omega (arith, h)), kept b (omega (arith, k))) (kept (a *ℤ b) (omega (arith, product_le a b h k)))
