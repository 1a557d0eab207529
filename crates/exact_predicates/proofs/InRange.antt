-- The test of a point's range.
use Rattle.std.proofs.Common.{◌≤◌, not, ltb, Decides, unsigned_abs, arith}
use Rattle.std.proofs.lemmas.Int.{ints}
use Rattle.std.proofs.lemmas.Bool.{and_parts, and_from, not-true, not_from_false, ltb-false, le-ltb}
use Rattle.exact_predicates.specs.declared.point.Point.{Point}
use Rattle.exact_predicates.specs.Plane.{IsInRange}
use Rattle.exact_predicates.specs.Merging.{is_in_range}

-- the test finds whether a point is in range
pub Decides-is_in_range : (p : Point) → Decides (is_in_range p) (IsInRange p)
Decides-is_in_range p = (
  λ e. let both = and_parts (not (ltb 1000000000 (unsigned_abs p.x))) (not (ltb 1000000000 (unsigned_abs p.y))) e in
      let x = ltb-false 1000000000 (unsigned_abs p.x) (not-true _ both.0) in
      let y = ltb-false 1000000000 (unsigned_abs p.y) (not-true _ both.1) in
      record { left = omega (arith, ints, x); right = omega (arith, ints, x); low = omega (arith, ints, y); high = omega (arith, ints, y) },
  λ h. let x : unsigned_abs p.x ≤ 1000000000 = omega (arith, ints) in
      let y : unsigned_abs p.y ≤ 1000000000 = omega (arith, ints) in
      and_from _ _ (not_from_false _ (le-ltb _ _ x)) (not_from_false _ (le-ltb _ _ y)),
)
