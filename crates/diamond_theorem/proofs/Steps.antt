-- From a step of the walk it goes on by exactly one of the two other sides of the triangle there.
use Rattle.std.proofs.Common.{◌≡◌, pos, ◌+ℤ◌, ◌*ℤ◌, ◌≤ℤ◌, ◌<ℤ◌, arith, sym, refl, subst, ⊎_elim, inl, inr}
use Rattle.std.proofs.lemmas.Int.{ints, by_lt_z}
use Rattle.exact_predicates.specs.declared.point.Point.{Point}
use Rattle.exact_predicates.specs.Plane.{orient, IsInClosedTriangle}
use Rattle.exact_predicates.proofs.Barycentric.{barycentric_orient}
use Rattle.exact_predicates.proofs.IntSigns.{mul-pos, nonneg-from-mul}
use Rattle.exact_predicates.proofs.Orientation.{orient_turned, orient_swapped, orient_swapped_last, orient_last_twice, orient_return}
use Rattle.diamond_theorem.specs.Laws.{StepsGoOn}
use Rattle.diamond_theorem.specs.Steps.{IsOnLeft, IsOnRight, IsStep}
use Rattle.diamond_theorem.proofs.Axis.{orient_five}
use Rattle.diamond_theorem.proofs.Mirror.{mirror, orient_mirror, triangle_mirror, IsOnLeft-mirror, IsStep-mirror}
use Rattle.diamond_theorem.proofs.Signs.{mul-nonpos, mul-neg, mul-both_nonpos, nonpos-from-mul}

-- the edge itself is the first step
pub first_step : (a b p : Point) → pos 0 <ℤ orient a b p → IsStep a b p a b
first_step a b p area =
    record {
      ahead = area;
      left = inl refl;
      right = inl refl;
      a_behind = omega (arith, ints, orient_return a b);
      b_behind = omega (arith, ints, orient_last_twice a b);
    }

-- a point on the left is to the right of neither line to p
pub left_sides : (a b p z : Point) → pos 0 <ℤ orient a b p → IsOnLeft a b p z → (pos 0 ≤ℤ orient a p z) × (pos 0 ≤ℤ orient b p z)
left_sides a b p z area h =
    ⊎_elim
    (λ e. subst (λ x. (pos 0 ≤ℤ orient a p x) × (pos 0 ≤ℤ orient b p x)) (sym e)
    (omega (arith, ints, orient_return a p), omega (arith, ints, orient_turned a b p)))
    (λ k. let k0 = k.0 in (omega (arith, ints), k.1))
    h

-- and a point on the right to the left of neither
pub right_sides : (a b p z : Point) → pos 0 <ℤ orient a b p → IsOnRight a b p z → (orient a p z ≤ℤ pos 0) × (orient b p z ≤ℤ pos 0)
right_sides a b p z area h =
    let (hb, ha) = left_sides (mirror b) (mirror a) (mirror p) (mirror z) (rw (orient_mirror a b p) area) (IsOnLeft-mirror a b p z h) in
    (omega (arith, ints, orient_mirror p a z, orient_swapped a p z), omega (arith, ints, orient_mirror p b z, orient_swapped b p z))

-- a corner of the triangle on a step is not under p in the wedge
not_under : (a b p l r z : Point) → pos 0 <ℤ orient a b p → IsStep a b p l r → pos 0 <ℤ orient l r z → ¬ IsInClosedTriangle a b p z
    → orient a p z ≤ℤ pos 0 → pos 0 ≤ℤ orient b p z → ⊥
not_under a b p l r z area s turn outside ha hb =
    let ahead = s.ahead in
    let whole = mul-pos (orient a b p) (orient l r z) area turn in
    let pa = mul-nonpos (orient b p z) (orient l r a) hb s.a_behind in
    let pb = mul-nonpos (orient p a z) (orient l r b) (omega (arith, ints, orient_swapped a p z)) s.b_behind in
    by_lt_z (orient a b z) (pos 0)
    (λ h. let pc = mul-neg (orient l r p) (orient a b z) ahead h in
    omega (arith, ints, barycentric_orient a b p z l r))
    (λ h. outside (record { left_of_ab = h; left_of_bc = hb; left_of_ca = omega (arith, ints, orient_swapped a p z) }))

-- a point over p in the wedge and one on its left
turns_over : (a b p l z : Point) → pos 0 <ℤ orient a b p → IsOnLeft a b p l → pos 0 <ℤ orient a p z → orient b p z <ℤ pos 0 → pos 0 ≤ℤ orient z l p
turns_over a b p l z area left ha hb =
    let (la, lb) = left_sides a b p l area left in
    let m1 = mul-both_nonpos (orient p a z) (orient p b l) (omega (arith, ints, orient_swapped a p z)) (omega (arith, ints, orient_swapped b p l)) in
    let m2 = mul-both_nonpos (orient p a l) (orient p z b) (omega (arith, ints, orient_swapped a p l)) (omega (arith, ints, orient_turned b p z, orient_turned p z b)) in
    let turn = nonneg-from-mul (orient p a b) (orient p z l) (omega (arith, ints, orient_turned p a b)) (omega (arith, ints, orient_five p a z b l)) in
    omega (arith, ints, orient_turned p z l)

-- so the corner is not there either
not_over : (a b p l r z : Point) → pos 0 <ℤ orient a b p → IsStep a b p l r → ¬ IsInClosedTriangle l r z p
    → pos 0 <ℤ orient a p z → orient b p z <ℤ pos 0 → ⊥
not_over a b p l r z area s outside ha hb =
    let ahead = s.ahead in
    let back = turns_over (mirror b) (mirror a) (mirror p) (mirror r) (mirror z) (rw (orient_mirror a b p) area) (IsOnLeft-mirror a b p r s.right)
    (omega (arith, ints, orient_mirror p b z, orient_swapped b p z)) (omega (arith, ints, orient_mirror p a z, orient_swapped a p z)) in
    outside (record {
      left_of_ab = omega (arith, ints);
      left_of_bc = rw (orient_mirror r z p) at back;
      left_of_ca = turns_over a b p l z area s.left ha hb;
    })

-- the next step has p on its left, where the corner is on the left
ahead_left : (a b p l r z : Point) → pos 0 <ℤ orient a b p → IsStep a b p l r → ¬ IsInClosedTriangle l r z p → pos 0 <ℤ orient a p z → pos 0 <ℤ orient z r p
ahead_left a b p l r z area s outside ha =
    let ahead = s.ahead in
    let (la, lb) = left_sides a b p l area s.left in
    let (ra, rb) = right_sides a b p r area s.right in
    by_lt_z (pos 0) (orient z r p)
    (λ h. h)
    (λ h. by_lt_z (orient z l p) (pos 0)
    (λ k. let m = mul-pos (orient p l r) (orient p z a) (omega (arith, ints, orient_turned p l r)) (omega (arith, ints, orient_turned a p z)) in
    let m1 = mul-nonpos (orient p l z) (orient p r a) (omega (arith, ints, orient_turned p z l, orient_swapped_last p z l)) (omega (arith, ints, orient_turned a p r)) in
    let m2 = mul-nonpos (orient p l a) (orient p z r) (omega (arith, ints, orient_turned a p l)) (omega (arith, ints, orient_turned p z r)) in
    absurd (omega (arith, ints, orient_five p l z r a)))
    (λ k. absurd (outside (record { left_of_ab = omega (arith, ints); left_of_bc = omega (arith, ints, orient_swapped r z p); left_of_ca = k }))))

-- and where it is on the right
ahead_right : (a b p l r z : Point) → pos 0 <ℤ orient a b p → IsStep a b p l r → ¬ IsInClosedTriangle l r z p → orient b p z <ℤ pos 0 → pos 0 <ℤ orient l z p
ahead_right a b p l r z area s outside hb =
    let back = ahead_left (mirror b) (mirror a) (mirror p) (mirror r) (mirror l) (mirror z) (rw (orient_mirror a b p) area) (IsStep-mirror a b p l r s)
    (λ i. outside (triangle_mirror l r z p i)) (omega (arith, ints, orient_mirror p b z, orient_swapped b p z)) in
    rw (orient_mirror l z p) at back

-- where a point x lies from the line lr, and from the line zr of the next step
pub next_line : (l r z p x : Point) → orient l r x *ℤ orient z r p ≡ (orient r x p *ℤ orient r l z) +ℤ (orient z r x *ℤ orient l r p)
next_line l r z p x = rw (← orient_turned l r x, ← orient_turned z r p, ← orient_turned z r x, ← orient_turned l r p) (orient_five r x p l z)

-- what was not to the left of the step is not to the left of the next one
behind_left : (l r p z x : Point) → pos 0 <ℤ orient l r p → pos 0 <ℤ orient l r z → pos 0 <ℤ orient z r p → orient x p r ≤ℤ pos 0 → orient l r x ≤ℤ pos 0 → orient z r x ≤ℤ pos 0
behind_left l r p z x ahead turn next side behind =
    let m1 = mul-both_nonpos (orient r x p) (orient r l z) (omega (arith, ints, orient_turned r x p)) (omega (arith, ints, orient_swapped l r z)) in
    let m2 = mul-nonpos (orient z r p) (orient l r x) (omega (arith, ints)) behind in
    nonpos-from-mul (orient l r p) (orient z r x) ahead (omega (arith, ints, next_line l r z p x))

behind_right : (l r p z x : Point) → pos 0 <ℤ orient l r p → pos 0 <ℤ orient l r z → pos 0 <ℤ orient l z p → pos 0 ≤ℤ orient x p l → orient l r x ≤ℤ pos 0 → orient l z x ≤ℤ pos 0
behind_right l r p z x ahead turn next side behind =
    let back = behind_left (mirror r) (mirror l) (mirror p) (mirror z) (mirror x) (rw (orient_mirror l r p) ahead) (rw (orient_mirror l r z) turn) (rw (orient_mirror l z p) next)
    (omega (arith, ints, orient_mirror p x l, orient_swapped x p l)) (rw (orient_mirror l r x) behind) in
    rw (orient_mirror l z x) at back

-- the step to a corner on the left
next_left : (a b p l r z : Point) → pos 0 <ℤ orient a b p → IsStep a b p l r → pos 0 <ℤ orient l r z → ¬ IsInClosedTriangle l r z p
    → pos 0 <ℤ orient a p z → pos 0 ≤ℤ orient b p z → IsStep a b p z r
next_left a b p l r z area s turn outside ha hb =
    let (ra, rb) = right_sides a b p r area s.right in
    let next = ahead_left a b p l r z area s outside ha in
    record {
      ahead = next;
      left = inr (ha, hb);
      right = s.right;
      a_behind = behind_left l r p z a s.ahead turn next ra s.a_behind;
      b_behind = behind_left l r p z b s.ahead turn next rb s.b_behind;
    }

-- and to one on the right
next_right : (a b p l r z : Point) → pos 0 <ℤ orient a b p → IsStep a b p l r → pos 0 <ℤ orient l r z → ¬ IsInClosedTriangle l r z p
    → orient b p z <ℤ pos 0 → orient a p z ≤ℤ pos 0 → IsStep a b p l z
next_right a b p l r z area s turn outside hb ha =
    let (la, lb) = left_sides a b p l area s.left in
    let next = ahead_right a b p l r z area s outside hb in
    record {
      ahead = next;
      left = s.left;
      right = inr (hb, ha);
      a_behind = behind_right l r p z a s.ahead turn next la s.a_behind;
      b_behind = behind_right l r p z b s.ahead turn next lb s.b_behind;
    }

-- a corner ahead of a step is neither a nor b, so not on both sides
not_both : (a b p l r z : Point) → IsStep a b p l r → pos 0 <ℤ orient l r z → IsOnLeft a b p z → ¬ IsOnRight a b p z
not_both a b p l r z s turn left right =
    let behind : (x : Point) → orient l r x ≤ℤ pos 0 → z ≡ x → ⊥ = λ x h e. (let k = subst (λ y. pos 0 <ℤ orient l r y) e turn in omega (arith, ints)) in
    ⊎_elim
    (behind a s.a_behind)
    (λ d. ⊎_elim (behind b s.b_behind) (λ k. let d1 = d.1 in let k0 = k.0 in omega (arith, ints)) right)
    left

pub goes_on : StepsGoOn
goes_on a b p l r z area s turn bare outside =
    by_lt_z (pos 0) (orient a p z)
    (λ ha. by_lt_z (orient b p z) (pos 0)
    (λ hb. absurd (not_over a b p l r z area s outside ha hb))
    (λ hb. inl (next_left a b p l r z area s turn outside ha hb, λ other. not_both a b p l r z s turn (inr (ha, hb)) other.right)))
    (λ ha. by_lt_z (orient b p z) (pos 0)
    (λ hb. inr (next_right a b p l r z area s turn outside hb ha, λ other. not_both a b p l r z s turn other.left (inr (hb, ha))))
    (λ hb. absurd (not_under a b p l r z area s turn bare ha hb)))
