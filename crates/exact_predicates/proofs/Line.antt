-- Points on the line of two others.
use Rattle.std.proofs.Common.{◌≡◌, ℤ, pos, ◌+ℤ◌, ◌-ℤ◌, ◌*ℤ◌, ◌<ℤ◌, arith, [], ◌∷◌, ap, ◌∙◌, refl, ⊎_elim}
use Rattle.std.proofs.lemmas.Int.{ints}
use Rattle.std.proofs.Math.IntN.{zero-*ℤ, *ℤ-zero}
use Rattle.exact_predicates.specs.declared.point.Point.{Point}
use Rattle.exact_predicates.specs.Plane.{orient, Precedes}
use Rattle.exact_predicates.proofs.IntSigns.{mul-pos, pos-from-mul, zero-from-mul}
use Rattle.exact_predicates.proofs.Ring.{var, num, plus, less, times, ring}
use Rattle.exact_predicates.proofs.Orientation.{coordinates, orient_term}
use Rattle.exact_predicates.proofs.HalfPlane.{cross, IsForward, cross_by_x, cross_swap, forward_from}

cross_by_y : (ax ay bx by cx cy : ℤ) → by *ℤ cross ax ay cx cy ≡ (ay *ℤ cross bx by cx cy) +ℤ (cy *ℤ cross ax ay bx by)
cross_by_y ax ay bx by cx cy =
    ring (ax ∷ ay ∷ bx ∷ by ∷ cx ∷ cy ∷ [])
    (times (var 3) (less (times (var 0) (var 5)) (times (var 1) (var 4))))
    (plus (times (var 1) (less (times (var 2) (var 5)) (times (var 3) (var 4)))) (times (var 5) (less (times (var 0) (var 3)) (times (var 1) (var 2)))))
    (omega arith)

-- two vectors on the line of a third one
on_line : (ax ay bx by cx cy : ℤ) → IsForward bx by → cross bx by ax ay ≡ pos 0 → cross bx by cx cy ≡ pos 0 → cross ax ay cx cy ≡ pos 0
on_line ax ay bx by cx cy b ea ec =
    let t = cross_swap ax ay bx by in
    let eb : cross ax ay bx by ≡ pos 0 = omega (arith, ints) in
    ⊎_elim
    (λ l. zero-from-mul bx (cross ax ay cx cy) l (cross_by_x ax ay bx by cx cy ∙ none ax cx _ _ ec eb))
    (λ u. zero-from-mul by (cross ax ay cx cy) u.1 (cross_by_y ax ay bx by cx cy ∙ none ay cy _ _ ec eb))
    b
  where
    none : (p q s t : ℤ) → s ≡ pos 0 → t ≡ pos 0 → (p *ℤ s) +ℤ (q *ℤ t) ≡ pos 0
    none p q s t e f = rw (e, f, *ℤ-zero p, *ℤ-zero q) refl

-- the turn between two vectors is a difference of two turns of points
difference : (a b i j : Point) → cross (b.x -ℤ a.x) (b.y -ℤ a.y) (j.x -ℤ i.x) (j.y -ℤ i.y) ≡ orient a b j -ℤ orient a b i
unfolding orient
difference a b i j =
    ring (coordinates (a ∷ b ∷ i ∷ j ∷ []))
    (less (times (less (var 2) (var 0)) (less (var 7) (var 5))) (times (less (var 3) (var 1)) (less (var 6) (var 4))))
    (less (orient_term 0 2 6) (orient_term 0 2 4))
    (omega arith)

-- three points on the line of two others lie on one line
pub orient-on_line : (a b i j k : Point) → Precedes a b → orient a b i ≡ pos 0 → orient a b j ≡ pos 0 → orient a b k ≡ pos 0 → orient i j k ≡ pos 0
unfolding orient
orient-on_line a b i j k h ei ej ek =
    on_line (j.x -ℤ i.x) (j.y -ℤ i.y) (b.x -ℤ a.x) (b.y -ℤ a.y) (k.x -ℤ i.x) (k.y -ℤ i.y) (forward_from a b h)
    (difference a b i j ∙ zero_difference _ _ ej ei)
    (difference a b i k ∙ zero_difference _ _ ek ei)
  where
    zero_difference : (s t : ℤ) → s ≡ pos 0 → t ≡ pos 0 → s -ℤ t ≡ pos 0
    zero_difference s t e f = rw (e, f) refl

-- two forward vectors on one line point the same way: what lies to the left of one lies to the left of the other
same_way : (ux uy vx vy wx wy : ℤ) → IsForward ux uy → IsForward vx vy → cross ux uy vx vy ≡ pos 0 → pos 0 <ℤ cross ux uy wx wy → pos 0 <ℤ cross vx vy wx wy
same_way ux uy vx vy wx wy u v e h =
    let back : cross vx vy ux uy ≡ pos 0 = omega (arith, ints, cross_swap ux uy vx vy) in
    ⊎_elim
    (λ right. ⊎_elim
    (λ l. pos-from-mul ux (cross vx vy wx wy) right
    (let m = mul-pos vx (cross ux uy wx wy) l h in
    let z : wx *ℤ cross vx vy ux uy ≡ pos 0 = ap (λ t. wx *ℤ t) back ∙ *ℤ-zero wx in
    rw (cross_by_x vx vy ux uy wx wy) (omega (arith, ints))))
    (λ (up : (vx ≡ pos 0) × (pos 0 <ℤ vy)). let m = mul-pos ux vy right up.1 in
    let z : uy *ℤ vx ≡ pos 0 = ap (λ t. uy *ℤ t) up.0 ∙ *ℤ-zero uy in
    absurd (omega (arith, ints)))
    v)
    (λ (up : (ux ≡ pos 0) × (pos 0 <ℤ uy)). ⊎_elim
    (λ l. let m = mul-pos uy vx up.1 l in
    let z : ux *ℤ vy ≡ pos 0 = ap (λ t. t *ℤ vy) up.0 ∙ zero-*ℤ vy in
    absurd (omega (arith, ints)))
    (λ (w : (vx ≡ pos 0) × (pos 0 <ℤ vy)). pos-from-mul uy (cross vx vy wx wy) up.1
    (let m = mul-pos vy (cross ux uy wx wy) w.1 h in
    let z : wy *ℤ cross vx vy ux uy ≡ pos 0 = ap (λ t. wy *ℤ t) back ∙ *ℤ-zero wy in
    rw (cross_by_y vx vy ux uy wx wy) (omega (arith, ints))))
    v)
    u

cross_opposite : (vx vy wx wy : ℤ) → cross vx vy (pos 0 -ℤ wx) (pos 0 -ℤ wy) +ℤ cross vx vy wx wy ≡ pos 0
cross_opposite vx vy wx wy =
    ring (vx ∷ vy ∷ wx ∷ wy ∷ [])
    (plus (less (times (var 0) (less (num (pos 0)) (var 3))) (times (var 1) (less (num (pos 0)) (var 2)))) (less (times (var 0) (var 3)) (times (var 1) (var 2))))
    (num (pos 0))
    (omega arith)

-- where r and s lie on the line from a to b, in the same order, what lies to the left of ab lies to the left of rs
pub orient-same_line_left : (a b r s c : Point) → Precedes a b → Precedes r s → orient a b r ≡ pos 0 → orient a b s ≡ pos 0 → pos 0 <ℤ orient a b c → pos 0 <ℤ orient r s c
unfolding orient
orient-same_line_left a b r s c ab rs er es h =
    same_way (b.x -ℤ a.x) (b.y -ℤ a.y) (s.x -ℤ r.x) (s.y -ℤ r.y) (c.x -ℤ r.x) (c.y -ℤ r.y) (forward_from a b ab) (forward_from r s rs)
    (let k = difference a b r s in omega (arith, ints))
    (let k = difference a b r c in omega (arith, ints))

-- and the same on the right
pub orient-same_line_right : (a b r s c : Point) → Precedes a b → Precedes r s → orient a b r ≡ pos 0 → orient a b s ≡ pos 0 → orient a b c <ℤ pos 0 → orient r s c <ℤ pos 0
unfolding orient
orient-same_line_right a b r s c ab rs er es h =
    let back = same_way (b.x -ℤ a.x) (b.y -ℤ a.y) (s.x -ℤ r.x) (s.y -ℤ r.y) (pos 0 -ℤ (c.x -ℤ r.x)) (pos 0 -ℤ (c.y -ℤ r.y)) (forward_from a b ab) (forward_from r s rs)
    (let k = difference a b r s in omega (arith, ints))
    (let k = difference a b r c in omega (arith, ints, cross_opposite (b.x -ℤ a.x) (b.y -ℤ a.y) (c.x -ℤ r.x) (c.y -ℤ r.y))) in
    omega (arith, ints, cross_opposite (s.x -ℤ r.x) (s.y -ℤ r.y) (c.x -ℤ r.x) (c.y -ℤ r.y))
