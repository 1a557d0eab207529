-- The image of points in a mirror: what holds on the left of the way from a to b holds on the right of that from b to a.
use Rattle.std.proofs.Common.{◌≡◌, ℕ, ◌+◌, pos, ◌-ℤ◌, [], ◌∷◌, arith, ap, ⊎_elim, inl, inr}
use Rattle.std.proofs.lemmas.Int.{ints}
use Rattle.exact_predicates.specs.declared.point.Point.{Point}
use Rattle.exact_predicates.specs.Plane.{orient, dot, IsInClosedTriangle, IsInLeftDiamond}
use Rattle.exact_predicates.proofs.Between.{dot_comm}
use Rattle.exact_predicates.proofs.Blocking.{dot_parts}
use Rattle.exact_predicates.proofs.Orientation.{coordinates, orient_term, orient_swapped}
use Rattle.exact_predicates.proofs.Ring.{Term, var, num, plus, less, times, ring}
use Rattle.diamond_theorem.specs.Discs.{power}
use Rattle.diamond_theorem.specs.Steps.{IsOnLeft, IsOnRight, IsStep}
use Rattle.diamond_theorem.proofs.Axis.{along, dot_term}

abbrev pub mirror : Point → Point
mirror p = record { id = p.id; x = p.x; y = pos 0 -ℤ p.y }

-- the mirrored ordinate of a point whose coordinates are the variables from i on
abbrev ordinate : ℕ → Term
ordinate i = less (num (pos 0)) (var (i + 1))

pub orient_mirror : (p q r : Point) → orient (mirror q) (mirror p) (mirror r) ≡ orient p q r
unfolding orient
orient_mirror p q r =
    ring (coordinates (p ∷ q ∷ r ∷ []))
    (less (times (less (var 0) (var 2)) (less (ordinate 4) (ordinate 2))) (times (less (ordinate 0) (ordinate 2)) (less (var 4) (var 2))))
    (orient_term 0 2 4)
    (omega arith)

pub dot_mirror : (o p q : Point) → dot (mirror o) (mirror p) (mirror q) ≡ dot o p q
unfolding dot
dot_mirror o p q =
    ring (coordinates (o ∷ p ∷ q ∷ []))
    (plus (times (less (var 2) (var 0)) (less (var 4) (var 0))) (times (less (ordinate 2) (ordinate 0)) (less (ordinate 4) (ordinate 0))))
    (dot_term 0 2 4)
    (omega arith)

-- the right of the wedge is the left of its image
pub IsOnLeft-mirror : (a b p z : Point) → IsOnRight a b p z → IsOnLeft (mirror b) (mirror a) (mirror p) (mirror z)
IsOnLeft-mirror a b p z h =
    ⊎_elim
    (λ e. inl (ap mirror e))
    (λ d. let d0 = d.0 in let d1 = d.1 in
    inr (omega (arith, ints, orient_mirror p b z, orient_swapped b p z), omega (arith, ints, orient_mirror p a z, orient_swapped a p z)))
    h

pub IsOnRight-mirror : (a b p z : Point) → IsOnLeft a b p z → IsOnRight (mirror b) (mirror a) (mirror p) (mirror z)
IsOnRight-mirror a b p z h =
    ⊎_elim
    (λ e. inl (ap mirror e))
    (λ d. let d0 = d.0 in let d1 = d.1 in
    inr (omega (arith, ints, orient_mirror p a z, orient_swapped a p z), omega (arith, ints, orient_mirror p b z, orient_swapped b p z)))
    h

pub IsStep-mirror : (a b p l r : Point) → IsStep a b p l r → IsStep (mirror b) (mirror a) (mirror p) (mirror r) (mirror l)
IsStep-mirror a b p l r s =
    record {
      ahead = rw (orient_mirror l r p) s.ahead;
      left = IsOnLeft-mirror a b p r s.right;
      right = IsOnRight-mirror a b p l s.left;
      a_behind = rw (orient_mirror l r b) s.b_behind;
      b_behind = rw (orient_mirror l r a) s.a_behind;
    }

pub triangle_mirror : (a b c p : Point) → IsInClosedTriangle (mirror b) (mirror a) (mirror c) (mirror p) → IsInClosedTriangle a b c p
triangle_mirror a b c p i =
    record {
      left_of_ab = rw (orient_mirror a b p) at i.left_of_ab;
      left_of_bc = rw (orient_mirror b c p) at i.left_of_ca;
      left_of_ca = rw (orient_mirror c a p) at i.left_of_bc;
    }

pub power_mirror : (a b z : Point) → power (mirror b) (mirror a) (mirror z) ≡ power a b z
power_mirror a b z = rw (dot_mirror z b a) (dot_comm z b a)

pub along_mirror : (a b o z : Point) → along (mirror b) (mirror a) (mirror o) (mirror z) ≡ along a b z o
along_mirror a b o z = omega (arith, ints, dot_mirror b a o, dot_mirror b a z, dot_parts a b o, dot_parts a b z)

pub IsInLeftDiamond-mirror : (a b p : Point) → IsInLeftDiamond a b p → IsInLeftDiamond (mirror b) (mirror a) (mirror p)
IsInLeftDiamond-mirror a b p h =
    record {
      left = rw (orient_mirror a b p) h.left;
      angle_at_p = rw (orient_mirror a b p, dot_mirror b a p) h.angle_at_q;
      angle_at_q = rw (orient_mirror a b p, dot_mirror a b p) h.angle_at_p;
    }
