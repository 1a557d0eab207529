-- Where points lie along an edge: the left of a wedge comes before its apex, and the right after it.
use Rattle.std.proofs.Common.{pos, ◌<ℤ◌, arith, sym, subst, ⊎_elim}
use Rattle.std.proofs.lemmas.Int.{ints}
use Rattle.exact_predicates.specs.declared.point.Point.{Point}
use Rattle.exact_predicates.specs.Plane.{orient, dot, IsInLeftDiamond}
use Rattle.exact_predicates.proofs.Blocking.{dot_parts}
use Rattle.exact_predicates.proofs.Orientation.{orient_swapped}
use Rattle.diamond_theorem.specs.Steps.{IsOnLeft, IsOnRight}
use Rattle.diamond_theorem.proofs.Axis.{along, barycentric_along, dot_start}
use Rattle.diamond_theorem.proofs.Mirror.{mirror, along_mirror, IsInLeftDiamond-mirror, IsOnLeft-mirror}
use Rattle.diamond_theorem.proofs.Signs.{mul-neg, mul-nonpos, mul-zero, neg-from-neg}

-- a point of the diamond lies between the ends of the edge, along it
pub diamond_between : (a b p : Point) → IsInLeftDiamond a b p → (pos 0 <ℤ dot a b p) × (pos 0 <ℤ dot b a p)
diamond_between a b p h =
    let up = h.left in
    let at_a = h.angle_at_p in
    let at_b = h.angle_at_q in
    (omega (arith, ints), omega (arith, ints))

-- a point on the left lies before p, along the edge
pub left_before : (a b p l : Point) → IsInLeftDiamond a b p → IsOnLeft a b p l → pos 0 <ℤ along a b l p
left_before a b p l h left =
    let (after_a, before_b) = diamond_between a b p h in
    let area = h.left in
    ⊎_elim
    (λ e. subst (λ z. pos 0 <ℤ along a b z p) (sym e) (omega (arith, ints, dot_start a b)))
    (λ d. let d0 = d.0 in
    let m1 = mul-nonpos (orient b p l) (along a b p a) d.1 (omega (arith, ints, dot_start a b)) in
    let m2 = mul-neg (along a b p b) (orient p a l) (omega (arith, ints, dot_parts a b p)) (omega (arith, ints, orient_swapped a p l)) in
    let m3 = mul-zero (orient a b l) (along a b p p) (omega (arith, ints)) in
    let back = neg-from-neg (orient a b p) (along a b p l) (omega (arith, ints)) (omega (arith, ints, barycentric_along a b p a b p l)) in
    omega (arith, ints))
    left

-- and one on the right after it
pub right_after : (a b p r : Point) → IsInLeftDiamond a b p → IsOnRight a b p r → pos 0 <ℤ along a b p r
right_after a b p r h right =
    rw (along_mirror a b r p) at (left_before (mirror b) (mirror a) (mirror p) (mirror r) (IsInLeftDiamond-mirror a b p h) (IsOnLeft-mirror a b p r right))

-- the edge has a length
pub base_positive : (a b p : Point) → IsInLeftDiamond a b p → pos 0 <ℤ dot a b b
base_positive a b p h = let (after_a, before_b) = diamond_between a b p h in omega (arith, ints, dot_parts a b p)
