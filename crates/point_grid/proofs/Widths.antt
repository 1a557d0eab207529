-- A point of a closed triangle is within each range of x that has the corners.
use Rattle.std.proofs.Common.{◌≡◌, ℤ, pos, ◌-ℤ◌, ◌≤ℤ◌, ◌<ℤ◌, arith, [], ◌∷◌}
use Rattle.std.proofs.lemmas.Int.{ints}
use Rattle.exact_predicates.specs.declared.point.Point.{Point}
use Rattle.exact_predicates.specs.Plane.{orient, IsInClosedTriangle}
use Rattle.exact_predicates.proofs.Orientation.{orient_swapped}
use Rattle.exact_predicates.proofs.Ring.{var, num, less, times, ring}
use Rattle.exact_predicates.proofs.Triangles.{triangle_left_of}

-- a point of the line upwards through x
upright : ℤ → ℤ → Point
upright x y = record { id = 0; x = x; y = y }

-- what lies to the left of that line has no greater x
upwards : (x : ℤ) (r : Point) → orient (upright x (pos 0)) (upright x (pos 1)) r ≡ x -ℤ r.x
unfolding upright orient
upwards x r =
    ring (x ∷ r.x ∷ r.y ∷ [])
    (less (times (less (var 0) (var 0)) (less (var 2) (num (pos 0)))) (times (less (num (pos 1)) (num (pos 0))) (less (var 1) (var 0))))
    (less (var 0) (var 1))
    (omega arith)

downwards : (x : ℤ) (r : Point) → orient (upright x (pos 1)) (upright x (pos 0)) r ≡ r.x -ℤ x
downwards x r = omega (arith, ints, upwards x r, orient_swapped (upright x (pos 0)) (upright x (pos 1)) r)

module _ (a b c r : Point) (x : ℤ) (area : pos 0 <ℤ orient a b c) (i : IsInClosedTriangle a b c r) where
  pub triangle_x_at_least : x ≤ℤ a.x → x ≤ℤ b.x → x ≤ℤ c.x → x ≤ℤ r.x
  triangle_x_at_least ha hb hc =
      let h = triangle_left_of a b c r (upright x (pos 1)) (upright x (pos 0)) area i (rw (downwards x a) (omega (arith, ints))) (rw (downwards x b) (omega (arith, ints))) (rw (downwards x c) (omega (arith, ints))) in
      omega (arith, ints, downwards x r)

  pub triangle_x_at_most : a.x ≤ℤ x → b.x ≤ℤ x → c.x ≤ℤ x → r.x ≤ℤ x
  triangle_x_at_most ha hb hc =
      let h = triangle_left_of a b c r (upright x (pos 0)) (upright x (pos 1)) area i (rw (upwards x a) (omega (arith, ints))) (rw (upwards x b) (omega (arith, ints))) (rw (upwards x c) (omega (arith, ints))) in
      omega (arith, ints, upwards x r)
