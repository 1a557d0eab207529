-- Steps of a walk with no end in the disc are long: longer than 3/5 of the edge, and than the way from an end to its middle.
use Rattle.std.proofs.Common.{◌≡◌, ◌+◌, ◌*◌, ◌<◌, ℤ, pos, ◌+ℤ◌, ◌-ℤ◌, ◌*ℤ◌, ◌≤ℤ◌, ◌<ℤ◌, [], ◌∷◌, arith, sym, subst, ⊎_elim}
use Rattle.std.proofs.lemmas.Int.{ints, by_lt_z}
use Rattle.exact_predicates.specs.declared.point.Point.{Point}
use Rattle.exact_predicates.specs.Plane.{orient, dot, d2, IsInLeftDiamond}
use Rattle.exact_predicates.proofs.Blocking.{dot_parts}
use Rattle.exact_predicates.proofs.HalfPlane.{cross}
use Rattle.exact_predicates.proofs.IntSigns.{square-nonneg, mul-nonneg, mul-pos, pos-from-mul}
use Rattle.exact_predicates.proofs.Orientation.{orient_swapped}
use Rattle.exact_predicates.proofs.Ring.{var, num, plus, less, times, ring}
use Rattle.diamond_theorem.specs.Discs.{power, IsInDisc}
use Rattle.diamond_theorem.specs.Laws.{StepsAreLong, StepsAreLongerThanMiddle}
use Rattle.diamond_theorem.specs.Steps.{IsStep}
use Rattle.diamond_theorem.proofs.Along.{base_positive}
use Rattle.diamond_theorem.proofs.Axis.{along}
use Rattle.diamond_theorem.proofs.Low.{low_step}
use Rattle.diamond_theorem.proofs.Middle.{dot_turned, spread, middle_x, middle_y, ways, turns, height_is, square_is, length_is, by_ways, by_half, along_most}
use Rattle.diamond_theorem.proofs.Mirror.{mirror, orient_mirror, dot_mirror, power_mirror, along_mirror}
use Rattle.diamond_theorem.proofs.Obtuse.{d2_is_dot}
use Rattle.diamond_theorem.proofs.Signs.{mul-zero}

-- lr leads over the middle of ab, low, with no end in the disc
pub record IsOver (a b l r : Point) : Type 0 where
  pub base : pos 0 <ℤ dot a b b
  pub behind : turns a b l r ≤ℤ pos 0
  pub low : (pos 5 *ℤ (pos 0 -ℤ turns a b l r)) <ℤ (pos 4 *ℤ along a b l r)
  pub l_out : pos 0 ≤ℤ power a b l
  pub r_out : pos 0 ≤ℤ power a b r
  pub l_before : dot a b l <ℤ dot b a l
  pub r_after : dot b a r <ℤ dot a b r

IsOver-mirror : (a b l r : Point) → IsOver a b l r → IsOver (mirror b) (mirror a) (mirror r) (mirror l)
IsOver-mirror a b l r o =
    let base = o.base in
    let behind = o.behind in
    let low = o.low in
    let l_before = o.l_before in
    let r_after = o.r_after in
    record {
      base = rw (dot_mirror b a a, dot_turned a b) base;
      behind = omega (arith, ints, orient_mirror l r a, orient_mirror l r b);
      low = omega (arith, ints, orient_mirror l r a, orient_mirror l r b, along_mirror a b r l);
      l_out = rw (power_mirror a b r) o.r_out;
      r_out = rw (power_mirror a b l) o.l_out;
      l_before = omega (arith, ints, dot_mirror a b r, dot_mirror b a r);
      r_after = omega (arith, ints, dot_mirror a b l, dot_mirror b a l);
    }

-- twice the height of z over ab is at most the squares of its ways to a and b
height_most : (a b z : Point) → (pos 2 *ℤ orient a b z) ≤ℤ (dot a b b +ℤ (pos 2 *ℤ power a b z))
height_most a b z =
    let m = square-nonneg (middle_x a b z -ℤ (b.y -ℤ a.y)) in
    let n = square-nonneg (middle_y a b z +ℤ (b.x -ℤ a.x)) in
    omega (arith, ints, apart (middle_x a b z) (middle_y a b z) (b.x -ℤ a.x) (b.y -ℤ a.y), height_is a b z, square_is a b z, length_is a b)
  where
    apart : (mx my ex ey : ℤ) → ((mx -ℤ ey) *ℤ (mx -ℤ ey)) +ℤ ((my +ℤ ex) *ℤ (my +ℤ ex))
        ≡ (((mx *ℤ mx) +ℤ (my *ℤ my)) +ℤ ((ex *ℤ ex) +ℤ (ey *ℤ ey))) -ℤ (pos 2 *ℤ cross mx my ex ey)
    apart mx my ex ey =
        ring (mx ∷ my ∷ ex ∷ ey ∷ [])
        (plus (times (less (var 0) (var 3)) (less (var 0) (var 3))) (times (plus (var 1) (var 2)) (plus (var 1) (var 2))))
        (less
        (plus (plus (times (var 0) (var 0)) (times (var 1) (var 1))) (plus (times (var 2) (var 2)) (times (var 3) (var 3))))
        (times (num (pos 2)) (less (times (var 0) (var 3)) (times (var 1) (var 2)))))
        (omega arith)

foot_numbers : (h u d n y t : ℤ) → pos 0 <ℤ h → pos 0 <ℤ n → y ≤ℤ n → t ≤ℤ pos 0 → (pos 5 *ℤ (pos 0 -ℤ t)) <ℤ (pos 4 *ℤ d)
    → h *ℤ u ≡ (d *ℤ n) +ℤ (y *ℤ t) → pos 0 <ℤ u
foot_numbers h u d n y t hh hn hy ht low e =
    let p = mul-pos (d +ℤ t) n (omega (arith, ints)) hn in
    let q = mul-nonneg (pos 0 -ℤ t) (n -ℤ y) (omega (arith, ints)) (omega (arith, ints)) in
    let f : ((d +ℤ t) *ℤ n) +ℤ ((pos 0 -ℤ t) *ℤ (n -ℤ y)) ≡ (d *ℤ n) +ℤ (y *ℤ t)
    = ring (d ∷ n ∷ y ∷ t ∷ [])
    (plus (times (plus (var 0) (var 3)) (var 1)) (times (less (num (pos 0)) (var 3)) (less (var 1) (var 2))))
    (plus (times (var 0) (var 1)) (times (var 2) (var 3))) (omega arith) in
    pos-from-mul h u hh (omega (arith, ints))

-- the foot of the middle of ab on the line lr lies after l
foot_after : (a b l r : Point) → IsOver a b l r → pos 0 <ℤ ways a b l r
foot_after a b l r o =
    let base = o.base in
    let out = o.l_out in
    let before = o.l_before in
    let most = height_most a b l in
    foot_numbers (dot b a l -ℤ dot a b l) (ways a b l r) (along a b l r) (dot a b b +ℤ (pos 4 *ℤ power a b l)) (pos 2 *ℤ orient a b l) (turns a b l r)
    (omega (arith, ints)) (omega (arith, ints)) (omega (arith, ints)) o.behind o.low (by_half a b l r)

foot_before : (a b l r : Point) → IsOver a b l r → pos 0 <ℤ ways a b r l
foot_before a b l r o =
    let after = foot_after (mirror b) (mirror a) (mirror r) (mirror l) (IsOver-mirror a b l r o) in
    omega (arith, ints, dot_mirror r l a, dot_mirror r l b)

-- 25 t^2 < 16 m where -5 t is not negative and less than 4 d, and d^2 is at most m
low_square : (t d m : ℤ) → t ≤ℤ pos 0 → (pos 5 *ℤ (pos 0 -ℤ t)) <ℤ (pos 4 *ℤ d) → (d *ℤ d) ≤ℤ m → (pos 25 *ℤ (t *ℤ t)) <ℤ (pos 16 *ℤ m)
low_square t d m ht low hm =
    let p = mul-pos ((pos 4 *ℤ d) +ℤ (pos 5 *ℤ t)) ((pos 4 *ℤ d) -ℤ (pos 5 *ℤ t)) (omega (arith, ints)) (omega (arith, ints)) in
    let e : ((pos 4 *ℤ d) +ℤ (pos 5 *ℤ t)) *ℤ ((pos 4 *ℤ d) -ℤ (pos 5 *ℤ t)) ≡ (pos 16 *ℤ (d *ℤ d)) -ℤ (pos 25 *ℤ (t *ℤ t))
    = ring (t ∷ d ∷ [])
    (times (plus (times (num (pos 4)) (var 1)) (times (num (pos 5)) (var 0))) (less (times (num (pos 4)) (var 1)) (times (num (pos 5)) (var 0))))
    (less (times (num (pos 16)) (times (var 1) (var 1))) (times (num (pos 25)) (times (var 0) (var 0)))) (omega arith) in
    omega (arith, ints)

-- the product of two positive numbers is at least what both of their squares are
product_least : (u w k : ℤ) → pos 0 <ℤ u → pos 0 <ℤ w → k ≤ℤ (u *ℤ u) → k ≤ℤ (w *ℤ w) → k ≤ℤ (u *ℤ w)
product_least u w k hu hw ku kw =
    by_lt_z u w
    (λ h. let m = mul-nonneg u (w -ℤ u) (omega (arith, ints)) (omega (arith, ints)) in omega (arith, ints, times_less u w u))
    (λ h. let m = mul-nonneg w (u -ℤ w) (omega (arith, ints)) (omega (arith, ints)) in omega (arith, ints, times_less w u w))
  where
    times_less : (x y z : ℤ) → x *ℤ (y -ℤ z) ≡ (x *ℤ y) -ℤ (x *ℤ z)
    times_less x y z = ring (x ∷ y ∷ z ∷ []) (times (var 0) (less (var 1) (var 2))) (less (times (var 0) (var 1)) (times (var 0) (var 2))) (omega arith)

long_numbers : (s d m n u w t : ℤ) → pos 0 <ℤ u → pos 0 <ℤ w → u +ℤ w ≡ pos 2 *ℤ d → pos 0 ≤ℤ m → pos 0 ≤ℤ n
    → d *ℤ (s +ℤ (pos 4 *ℤ m)) ≡ (u *ℤ u) +ℤ t → d *ℤ (s +ℤ (pos 4 *ℤ n)) ≡ (w *ℤ w) +ℤ t → (pos 25 *ℤ t) <ℤ (pos 16 *ℤ (s *ℤ d))
    → ((pos 9 *ℤ s) +ℤ (pos 25 *ℤ m)) <ℤ (pos 25 *ℤ d)
long_numbers s d m n u w t hu hw sum hm hn eu ew low =
    let dm = mul-nonneg d m (omega (arith, ints)) hm in
    let dn = mul-nonneg d n (omega (arith, ints)) hn in
    let least = product_least u w ((d *ℤ s) -ℤ t) hu hw (omega (arith, ints, two_parts d s m)) (omega (arith, ints, two_parts d s n)) in
    let whole : (u +ℤ w) *ℤ (u +ℤ w) ≡ pos 4 *ℤ (d *ℤ d) = rw sum (doubled d) in
    let g = pos-from-mul d ((pos 25 *ℤ d) -ℤ ((pos 9 *ℤ s) +ℤ (pos 25 *ℤ m))) (omega (arith, ints))
    (rw (last d s m) (omega (arith, ints, two_parts d s m, two_parts d s n, square_of_sum u w))) in
    omega (arith, ints)
  where
    two_parts : (x y z : ℤ) → x *ℤ (y +ℤ (pos 4 *ℤ z)) ≡ (x *ℤ y) +ℤ (pos 4 *ℤ (x *ℤ z))
    two_parts x y z =
        ring (x ∷ y ∷ z ∷ []) (times (var 0) (plus (var 1) (times (num (pos 4)) (var 2))))
        (plus (times (var 0) (var 1)) (times (num (pos 4)) (times (var 0) (var 2)))) (omega arith)

    doubled : (x : ℤ) → (pos 2 *ℤ x) *ℤ (pos 2 *ℤ x) ≡ pos 4 *ℤ (x *ℤ x)
    doubled x = ring (x ∷ []) (times (times (num (pos 2)) (var 0)) (times (num (pos 2)) (var 0))) (times (num (pos 4)) (times (var 0) (var 0))) (omega arith)

    square_of_sum : (x y : ℤ) → (x +ℤ y) *ℤ (x +ℤ y) ≡ ((x *ℤ x) +ℤ (y *ℤ y)) +ℤ (pos 2 *ℤ (x *ℤ y))
    square_of_sum x y =
        ring (x ∷ y ∷ []) (times (plus (var 0) (var 1)) (plus (var 0) (var 1)))
        (plus (plus (times (var 0) (var 0)) (times (var 1) (var 1))) (times (num (pos 2)) (times (var 0) (var 1)))) (omega arith)

    last : (x y z : ℤ) → x *ℤ ((pos 25 *ℤ x) -ℤ ((pos 9 *ℤ y) +ℤ (pos 25 *ℤ z))) ≡ (pos 25 *ℤ (x *ℤ x)) -ℤ ((pos 9 *ℤ (x *ℤ y)) +ℤ (pos 25 *ℤ (x *ℤ z)))
    last x y z =
        ring (x ∷ y ∷ z ∷ [])
        (times (var 0) (less (times (num (pos 25)) (var 0)) (plus (times (num (pos 9)) (var 1)) (times (num (pos 25)) (var 2)))))
        (less (times (num (pos 25)) (times (var 0) (var 0))) (plus (times (num (pos 9)) (times (var 0) (var 1))) (times (num (pos 25)) (times (var 0) (var 2)))))
        (omega arith)

-- the square of lr is more than 9/25 of that of ab, and the power of l, together
pub long_left : (a b l r : Point) → IsOver a b l r → ((pos 9 *ℤ dot a b b) +ℤ (pos 25 *ℤ power a b l)) <ℤ (pos 25 *ℤ dot l r r)
long_left a b l r o =
    long_numbers (dot a b b) (dot l r r) (power a b l) (power a b r) (ways a b l r) (ways a b r l) (turns a b l r *ℤ turns a b l r)
    (foot_after a b l r o) (foot_before a b l r o)
    (omega (arith, ints, dot_parts l r a, dot_parts l r b)) o.l_out o.r_out (by_ways a b l r) back
    (low_square (turns a b l r) (along a b l r) (dot a b b *ℤ dot l r r) o.behind o.low (along_most a b l r))
  where
    opposite : (x y : ℤ) → x +ℤ y ≡ pos 0 → x *ℤ x ≡ y *ℤ y
    opposite x y e =
        let f : (x *ℤ x) -ℤ (y *ℤ y) ≡ (x -ℤ y) *ℤ (x +ℤ y)
        = ring (x ∷ y ∷ []) (less (times (var 0) (var 0)) (times (var 1) (var 1))) (times (less (var 0) (var 1)) (plus (var 0) (var 1))) (omega arith) in
        let z = mul-zero (x -ℤ y) (x +ℤ y) e in
        omega (arith, ints)

    back : dot l r r *ℤ (dot a b b +ℤ (pos 4 *ℤ power a b r)) ≡ (ways a b r l *ℤ ways a b r l) +ℤ (turns a b l r *ℤ turns a b l r)
    back =
        rw (opposite (turns a b l r) (turns a b r l) (omega (arith, ints, orient_swapped l r a, orient_swapped l r b)), sym (dot_turned l r)) (by_ways a b r l)

pub long_right : (a b l r : Point) → IsOver a b l r → ((pos 9 *ℤ dot a b b) +ℤ (pos 25 *ℤ power a b r)) <ℤ (pos 25 *ℤ dot l r r)
long_right a b l r o =
    let left = long_left (mirror b) (mirror a) (mirror r) (mirror l) (IsOver-mirror a b l r o) in
    omega (arith, ints, dot_mirror b a a, dot_turned a b, power_mirror a b r, dot_mirror r l l, dot_turned l r)

step_over : (a b p l r : Point) → IsInLeftDiamond a b p → IsStep a b p l r → ¬ IsInDisc a b l → ¬ IsInDisc a b r → IsOver a b l r
step_over a b p l r h s l_out r_out =
    let base = base_positive a b p h in
    let a_behind = s.a_behind in
    let b_behind = s.b_behind in
    let step = low_step a b p l r h s l_out r_out in
    let half_way = step.half_way in
    let l_beside = step.left.beside in
    let r_beside = step.right.beside in
    record {
      base = base;
      behind = omega (arith, ints);
      low = omega (arith, ints);
      l_out = by_lt_z (power a b l) (pos 0) (λ k. absurd (l_out k)) (λ k. k);
      r_out = by_lt_z (power a b r) (pos 0) (λ k. absurd (r_out k)) (λ k. k);
      l_before = omega (arith, ints, dot_parts a b l);
      r_after = omega (arith, ints, dot_parts a b r);
    }

pub steps_long : StepsAreLong
steps_long a b p l r h s l_out r_out =
    let o = step_over a b p l r h s l_out r_out in
    let out = o.l_out in
    let long = long_left a b l r o in
    omega (arith, ints, d2_is_dot a b, d2_is_dot l r)

middle_numbers : (a b l r v : Point) → ((pos 9 *ℤ dot a b b) +ℤ (pos 25 *ℤ power a b v)) <ℤ (pos 25 *ℤ dot l r r) → 25 * (d2 a v + d2 v b) < 50 * d2 l r + 7 * d2 a b
middle_numbers a b l r v h = omega (arith, ints, spread a b v, d2_is_dot a v, d2_is_dot v b, d2_is_dot l r, d2_is_dot a b)

pub steps_longer : StepsAreLongerThanMiddle
steps_longer a b p l r v h s l_out r_out end =
    let o = step_over a b p l r h s l_out r_out in
    ⊎_elim
    (λ e. subst (λ z. 25 * (d2 a z + d2 z b) < 50 * d2 l r + 7 * d2 a b) (sym e) (middle_numbers a b l r l (long_left a b l r o)))
    (λ e. subst (λ z. 25 * (d2 a z + d2 z b) < 50 * d2 l r + 7 * d2 a b) (sym e) (middle_numbers a b l r r (long_right a b l r o)))
    end
