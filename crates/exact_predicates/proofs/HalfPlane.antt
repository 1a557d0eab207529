-- Turns between vectors that all point forward: seen from a point, those that come after it lie in a half-plane, where turning
-- to the left is transitive.
use Rattle.std.proofs.Common.{◌≡◌, ℤ, pos, ◌+ℤ◌, ◌-ℤ◌, ◌*ℤ◌, ◌≤ℤ◌, ◌<ℤ◌, arith, [], ◌∷◌, ap, ◌∙◌, ⊎_elim, ◌⊎◌, inl, inr}
use Rattle.std.proofs.lemmas.Int.{ints, by_lt_z}
use Rattle.std.proofs.Math.IntN.{zero-*ℤ, *ℤ-zero}
use Rattle.exact_predicates.specs.declared.point.Point.{Point}
use Rattle.exact_predicates.specs.Plane.{orient, Precedes}
use Rattle.exact_predicates.proofs.IntSigns.{mul-nonneg, mul-pos, nonneg-from-mul, pos-from-mul}
use Rattle.exact_predicates.proofs.Ring.{var, num, plus, less, times, ring}
use Rattle.exact_predicates.proofs.Orientation.{coordinates, orient_term}

-- the turn from one vector to another: positive to the left
abbrev pub cross : ℤ → ℤ → ℤ → ℤ → ℤ
cross ax ay bx by = (ax *ℤ by) -ℤ (ay *ℤ bx)

-- to the right, or straight up
abbrev pub IsForward : ℤ → ℤ → Type 0
IsForward x y = (pos 0 <ℤ x) ⊎ ((x ≡ pos 0) × (pos 0 <ℤ y))

pub forward_x : (x y : ℤ) → IsForward x y → pos 0 ≤ℤ x
forward_x x y h = ⊎_elim (λ l. omega (arith, ints)) (λ e. omega (arith, ints, e.0)) h

pub cross_by_x : (ax ay bx by cx cy : ℤ) → bx *ℤ cross ax ay cx cy ≡ (ax *ℤ cross bx by cx cy) +ℤ (cx *ℤ cross ax ay bx by)
cross_by_x ax ay bx by cx cy =
    ring (ax ∷ ay ∷ bx ∷ by ∷ cx ∷ cy ∷ [])
    (times (var 2) (less (times (var 0) (var 5)) (times (var 1) (var 4))))
    (plus (times (var 0) (less (times (var 2) (var 5)) (times (var 3) (var 4)))) (times (var 4) (less (times (var 0) (var 3)) (times (var 1) (var 2)))))
    (omega arith)

-- where the turns from a to b and from b to c are not to the right, nor is that from a to c
pub cross_transitive : (ax ay bx by cx cy : ℤ) → IsForward ax ay → IsForward bx by → IsForward cx cy
    → pos 0 ≤ℤ cross ax ay bx by → pos 0 ≤ℤ cross bx by cx cy → pos 0 ≤ℤ cross ax ay cx cy
cross_transitive ax ay bx by cx cy a b c ab bc =
    ⊎_elim
    (λ l. nonneg-from-mul bx (cross ax ay cx cy) l (sum_nonneg ax ay bx by cx cy a c ab bc))
    (λ u. upright ax ay bx by cx cy u.0 u.1 a c bc)
    b
  where
    sum_nonneg : (ax ay bx by cx cy : ℤ) → IsForward ax ay → IsForward cx cy → pos 0 ≤ℤ cross ax ay bx by → pos 0 ≤ℤ cross bx by cx cy → pos 0 ≤ℤ (bx *ℤ cross ax ay cx cy)
    sum_nonneg ax ay bx by cx cy a c ab bc =
        let m = mul-nonneg ax (cross bx by cx cy) (forward_x ax ay a) bc in
        let k = mul-nonneg cx (cross ax ay bx by) (forward_x cx cy c) ab in
        rw (cross_by_x ax ay bx by cx cy) (omega (arith, ints))

    upright : (ax ay bx by cx cy : ℤ) → bx ≡ pos 0 → pos 0 <ℤ by → IsForward ax ay → IsForward cx cy → pos 0 ≤ℤ cross bx by cx cy → pos 0 ≤ℤ cross ax ay cx cy
    upright ax ay bx by cx cy e l a c bc =
        let none : bx *ℤ cy ≡ pos 0 = ap (λ z. z *ℤ cy) e ∙ zero-*ℤ cy in
        ⊎_elim
        (λ right. let m = mul-pos by cx l right in absurd (omega (arith, ints)))
        (λ u. let k = mul-nonneg ax cy (forward_x ax ay a) (omega (arith, ints, u.1)) in
        let z : ay *ℤ cx ≡ pos 0 = ap (λ z. ay *ℤ z) u.0 ∙ *ℤ-zero ay in
        omega (arith, ints))
        c

pub cross_swap : (ax ay bx by : ℤ) → cross ax ay bx by +ℤ cross bx by ax ay ≡ pos 0
cross_swap ax ay bx by =
    ring (ax ∷ ay ∷ bx ∷ by ∷ [])
    (plus (less (times (var 0) (var 3)) (times (var 1) (var 2))) (less (times (var 2) (var 1)) (times (var 3) (var 0))))
    (num (pos 0))
    (omega arith)

-- the strict form: it follows from the weak one by going on round
pub cross_strict : (ax ay bx by cx cy : ℤ) → IsForward ax ay → IsForward bx by → IsForward cx cy
    → pos 0 <ℤ cross ax ay bx by → pos 0 ≤ℤ cross bx by cx cy → pos 0 <ℤ cross ax ay cx cy
cross_strict ax ay bx by cx cy a b c ab bc =
    by_lt_z (pos 0) (cross ax ay cx cy) (λ h. h)
    (λ h. let back = cross_swap ax ay cx cy in
    let turned = cross_transitive bx by cx cy ax ay b c a bc (omega (arith, ints)) in
    absurd (omega (arith, ints, cross_swap ax ay bx by)))

-- the same, where the second turn is the strict one
pub cross_strict_last : (ax ay bx by cx cy : ℤ) → IsForward ax ay → IsForward bx by → IsForward cx cy
    → pos 0 ≤ℤ cross ax ay bx by → pos 0 <ℤ cross bx by cx cy → pos 0 <ℤ cross ax ay cx cy
cross_strict_last ax ay bx by cx cy a b c ab bc =
    by_lt_z (pos 0) (cross ax ay cx cy) (λ h. h)
    (λ h. let back = cross_swap ax ay cx cy in
    let turned = cross_transitive cx cy ax ay bx by c a b (omega (arith, ints)) ab in
    absurd (omega (arith, ints, cross_swap bx by cx cy)))

pub forward_from : (o p : Point) → Precedes o p → IsForward (p.x -ℤ o.x) (p.y -ℤ o.y)
forward_from o p h =
    ⊎_elim
    (λ l. inl (omega (arith, ints)))
    (λ e. inr (let f = e.0 in omega (arith, ints), let f = e.1 in omega (arith, ints)))
    h

-- seen from a point that comes before them all, b lies between a and c
pub turn_transitive : (o a b c : Point) → Precedes o a → Precedes o b → Precedes o c
    → pos 0 ≤ℤ orient o a b → pos 0 ≤ℤ orient o b c → pos 0 ≤ℤ orient o a c
unfolding orient
turn_transitive o a b c ha hb hc ab bc =
    cross_transitive _ _ _ _ _ _ (forward_from o a ha) (forward_from o b hb) (forward_from o c hc) ab bc

-- the turn seen from a point that comes after the two others, by vectors that point forward
pub orient_back : (o a b : Point) → orient o a b ≡ cross (o.x -ℤ a.x) (o.y -ℤ a.y) (o.x -ℤ b.x) (o.y -ℤ b.y)
unfolding orient
orient_back o a b =
    ring (coordinates (o ∷ a ∷ b ∷ [])) (orient_term 0 2 4)
    (less (times (less (var 0) (var 2)) (less (var 1) (var 5))) (times (less (var 1) (var 3)) (less (var 0) (var 4))))
    (omega arith)

-- the same, seen from a point that comes after them all
pub turn_back_transitive : (o a b c : Point) → Precedes a o → Precedes b o → Precedes c o
    → pos 0 ≤ℤ orient o a b → pos 0 ≤ℤ orient o b c → pos 0 ≤ℤ orient o a c
turn_back_transitive o a b c ha hb hc =
    rw (orient_back o a b, orient_back o b c, orient_back o a c)
    (λ ab bc. cross_transitive _ _ _ _ _ _ (forward_from a o ha) (forward_from b o hb) (forward_from c o hc) ab bc)

-- the strict form
pub turn_strict : (o a b c : Point) → Precedes o a → Precedes o b → Precedes o c
    → pos 0 <ℤ orient o a b → pos 0 ≤ℤ orient o b c → pos 0 <ℤ orient o a c
unfolding orient
turn_strict o a b c ha hb hc ab bc =
    cross_strict _ _ _ _ _ _ (forward_from o a ha) (forward_from o b hb) (forward_from o c hc) ab bc

-- the same, where the second turn is the strict one
pub turn_strict_last : (o a b c : Point) → Precedes o a → Precedes o b → Precedes o c
    → pos 0 ≤ℤ orient o a b → pos 0 <ℤ orient o b c → pos 0 <ℤ orient o a c
unfolding orient
turn_strict_last o a b c ha hb hc ab bc =
    cross_strict_last _ _ _ _ _ _ (forward_from o a ha) (forward_from o b hb) (forward_from o c hc) ab bc

-- the turns between four vectors
pub cross_four : (ax ay bx by cx cy dx dy : ℤ) → cross ax ay cx cy *ℤ cross bx by dx dy ≡ (cross ax ay bx by *ℤ cross cx cy dx dy) +ℤ (cross ax ay dx dy *ℤ cross bx by cx cy)
cross_four ax ay bx by cx cy dx dy =
    ring (ax ∷ ay ∷ bx ∷ by ∷ cx ∷ cy ∷ dx ∷ dy ∷ [])
    (times (less (times (var 0) (var 5)) (times (var 1) (var 4))) (less (times (var 2) (var 7)) (times (var 3) (var 6))))
    (plus
    (times (less (times (var 0) (var 3)) (times (var 1) (var 2))) (less (times (var 4) (var 7)) (times (var 5) (var 6))))
    (times (less (times (var 0) (var 7)) (times (var 1) (var 6))) (less (times (var 2) (var 5)) (times (var 3) (var 4)))))
    (omega arith)

-- three vectors to the left of u: from x not to the right to y, and from there to the left to z, is to the left
pub cross_onward : (ux uy xx xy yx yy zx zy : ℤ) → pos 0 <ℤ cross ux uy xx xy → pos 0 <ℤ cross ux uy yx yy → pos 0 <ℤ cross ux uy zx zy
    → pos 0 ≤ℤ cross xx xy yx yy → pos 0 <ℤ cross yx yy zx zy → pos 0 <ℤ cross xx xy zx zy
cross_onward ux uy xx xy yx yy zx zy hx hy hz xy_ yz =
    let m = mul-pos (cross ux uy xx xy) (cross yx yy zx zy) hx yz in
    let n = mul-nonneg (cross ux uy zx zy) (cross xx xy yx yy) (omega (arith, ints)) xy_ in
    pos-from-mul (cross ux uy yx yy) (cross xx xy zx zy) hy (rw (cross_four ux uy xx xy yx yy zx zy) (omega (arith, ints)))

-- the turn at the second of three points
pub orient_at_second : (a b c : Point) → orient a b c ≡ cross (b.x -ℤ a.x) (b.y -ℤ a.y) (c.x -ℤ b.x) (c.y -ℤ b.y)
unfolding orient
orient_at_second a b c =
    ring (coordinates (a ∷ b ∷ c ∷ [])) (orient_term 0 2 4)
    (less (times (less (var 2) (var 0)) (less (var 5) (var 3))) (times (less (var 3) (var 1)) (less (var 4) (var 2))))
    (omega arith)

-- seen from b, the points to the left of the line ab lie in a half-plane
pub left_turn_strict : (a b x y z : Point) → pos 0 <ℤ orient a b x → pos 0 <ℤ orient a b y → pos 0 <ℤ orient a b z
    → pos 0 ≤ℤ orient b x y → pos 0 <ℤ orient b y z → pos 0 <ℤ orient b x z
unfolding orient
left_turn_strict a b x y z =
    rw (orient_at_second a b x, orient_at_second a b y, orient_at_second a b z)
    (cross_onward (b.x -ℤ a.x) (b.y -ℤ a.y) (x.x -ℤ b.x) (x.y -ℤ b.y) (y.x -ℤ b.x) (y.y -ℤ b.y) (z.x -ℤ b.x) (z.y -ℤ b.y))
