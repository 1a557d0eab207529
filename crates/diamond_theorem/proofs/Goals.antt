-- Where the diamond of a side has a point, a lowest one is a goal: it is alone in its triangle over the side.
use Rattle.std.proofs.Common.{◌≡◌, ◌⊎◌, ℕ, zero, suc, ◌<◌, List, length, ℤ, pos, ◌-ℤ◌, ◌*ℤ◌, ◌≤ℤ◌, ◌<ℤ◌, arith, [], ◌∷◌, ap, subst, sym, ⊎_elim, inl, inr}
use Rattle.std.proofs.lemmas.Bool.{cases_eq, cases_lt}
use Rattle.std.proofs.lemmas.Int.{ints, by_lt_z}
use Rattle.exact_predicates.specs.declared.point.Point.{Point}
use Rattle.exact_predicates.specs.Plane.{orient, dot, Precedes, IsInClosedTriangle, IsInLeftDiamond}
use Rattle.exact_predicates.specs.PointSet.{IsPointSet, point_at}
use Rattle.exact_predicates.proofs.Barycentric.{barycentric_orient}
use Rattle.exact_predicates.proofs.Corners.{IsBare}
use Rattle.exact_predicates.proofs.IntSigns.{square-nonneg, mul-nonneg, mul-pos, nonneg-from-mul, pos-from-mul, zero-from-mul}
use Rattle.exact_predicates.proofs.Orientation.{orient_turned, orient_four, orient_return, orient_last_twice}
use Rattle.exact_predicates.proofs.Ring.{var, num, less, times, ring}
use Rattle.diamond_theorem.specs.Walks.{IsGoal}
use Rattle.diamond_theorem.proofs.Axis.{barycentric_dot, dot_start}
use Rattle.diamond_theorem.proofs.Discs.{dot_square}
use Rattle.diamond_theorem.proofs.Signs.{mul-zero, zero_square}

diamond_or_not : (a b r : Point) → IsInLeftDiamond a b r ⊎ (¬ IsInLeftDiamond a b r)
diamond_or_not a b r =
    by_lt_z (pos 0) (orient a b r)
    (λ l. by_lt_z (pos 5 *ℤ orient a b r) (pos 4 *ℤ dot a b r)
    (λ x. by_lt_z (pos 5 *ℤ orient a b r) (pos 4 *ℤ dot b a r)
    (λ y. inl (record { left = l; angle_at_p = x; angle_at_q = y }))
    (λ y. inr (λ h. let z = h.angle_at_q in omega (arith, ints))))
    (λ x. inr (λ h. let z = h.angle_at_p in omega (arith, ints))))
    (λ l. inr (λ h. let z = h.left in omega (arith, ints)))

-- q is a lowest one of the points before n that lie in the diamond
record IsLowest (ps : List Point) (a b n q : ℕ) : Type 0 where
  before : q < n
  in_diamond : IsInLeftDiamond (point_at ps a) (point_at ps b) (point_at ps q)
  lowest : (r : ℕ) → r < n → IsInLeftDiamond (point_at ps a) (point_at ps b) (point_at ps r)
      → orient (point_at ps a) (point_at ps b) (point_at ps q) ≤ℤ orient (point_at ps a) (point_at ps b) (point_at ps r)

lowest_or_none : (ps : List Point) (a b n : ℕ) → ((q : ℕ) × IsLowest ps a b n q) ⊎ ((r : ℕ) → r < n → ¬ IsInLeftDiamond (point_at ps a) (point_at ps b) (point_at ps r))
lowest_or_none ps a b zero = inr (λ r l h. omega arith)
lowest_or_none ps a b (suc n) =
    ⊎_elim
    (λ f. inl (one_more f.0 f.1 (diamond_or_not (point_at ps a) (point_at ps b) (point_at ps n))))
    (λ none. ⊎_elim
    (λ h. inl (
      n,
      record {
        before = omega arith;
        in_diamond = h;
        lowest = λ r l k. ⊎_elim (λ e. subst (λ x. height n ≤ℤ height x) (sym e) (omega (arith, ints))) (λ ne. absurd (none r (omega (arith, l, ne)) k)) (cases_eq r n);
      },
    ))
    (λ away. inr (λ r l k. ⊎_elim (λ e. away (subst (λ x. IsInLeftDiamond (point_at ps a) (point_at ps b) (point_at ps x)) e k)) (λ ne. none r (omega (arith, l, ne)) k) (cases_eq r n)))
    (diamond_or_not (point_at ps a) (point_at ps b) (point_at ps n)))
    (lowest_or_none ps a b n)
  where
    height : ℕ → ℤ
    height r = orient (point_at ps a) (point_at ps b) (point_at ps r)

    kept : (q : ℕ) → IsLowest ps a b n q → (IsInLeftDiamond (point_at ps a) (point_at ps b) (point_at ps n) → height q ≤ℤ height n) → IsLowest ps a b (suc n) q
    kept q f not_lower =
        record {
          before = omega (arith, f.before);
          in_diamond = f.in_diamond;
          lowest = λ r l k. ⊎_elim
              (λ e. subst (λ x. height q ≤ℤ height x) (sym e) (not_lower (subst (λ x. IsInLeftDiamond (point_at ps a) (point_at ps b) (point_at ps x)) e k)))
              (λ ne. f.lowest r (omega (arith, l, ne)) k)
              (cases_eq r n);
        }

    lower : (q : ℕ) → IsLowest ps a b n q → IsInLeftDiamond (point_at ps a) (point_at ps b) (point_at ps n) → height n <ℤ height q → IsLowest ps a b (suc n) n
    lower q f h under =
        record {
          before = omega arith;
          in_diamond = h;
          lowest = λ r l k. ⊎_elim
              (λ e. subst (λ x. height n ≤ℤ height x) (sym e) (omega (arith, ints)))
              (λ ne. let not_lower = f.lowest r (omega (arith, l, ne)) k in omega (arith, ints))
              (cases_eq r n);
        }

    one_more : (q : ℕ) → IsLowest ps a b n q → IsInLeftDiamond (point_at ps a) (point_at ps b) (point_at ps n) ⊎ (¬ IsInLeftDiamond (point_at ps a) (point_at ps b) (point_at ps n))
        → (q : ℕ) × IsLowest ps a b (suc n) q
    one_more q f here =
        ⊎_elim
        (λ h. by_lt_z (height n) (height q) (λ under. (n, lower q f h under)) (λ not_lower. (q, kept q f (λ _. not_lower))))
        (λ away. (q, kept q f (λ h. absurd (away h))))
        here

less_times : (w x y : ℤ) → w *ℤ ((pos 4 *ℤ x) -ℤ (pos 5 *ℤ y)) ≡ (pos 4 *ℤ (w *ℤ x)) -ℤ (pos 5 *ℤ (w *ℤ y))
less_times w x y =
    ring (w ∷ x ∷ y ∷ [])
    (times (var 0) (less (times (num (pos 4)) (var 1)) (times (num (pos 5)) (var 2))))
    (less (times (num (pos 4)) (times (var 0) (var 1))) (times (num (pos 5)) (times (var 0) (var 2))))
    (omega arith)

-- where p is lower over ab than by the slope 4/5 along st, and neither end of ab lies before s, so are the points of the triangle
below_angle : (a b p r s t : Point) → IsInClosedTriangle a b p r → pos 0 <ℤ orient a b p → pos 0 <ℤ orient a b r → pos 0 ≤ℤ dot s t a → pos 0 ≤ℤ dot s t b
    → (pos 5 *ℤ orient a b p) <ℤ (pos 4 *ℤ dot s t p) → (pos 5 *ℤ orient a b r) <ℤ (pos 4 *ℤ dot s t r)
below_angle a b p r s t i area above ha hb hp =
    let m1 = mul-nonneg (orient b p r) (dot s t a) i.left_of_bc ha in
    let m2 = mul-nonneg (orient p a r) (dot s t b) i.left_of_ca hb in
    let m3 = mul-pos (orient a b r) ((pos 4 *ℤ dot s t p) -ℤ (pos 5 *ℤ orient a b p)) above (omega (arith, ints)) in
    let low = pos-from-mul (orient a b p) ((pos 4 *ℤ dot s t r) -ℤ (pos 5 *ℤ orient a b r)) area
    (omega (arith, ints, barycentric_dot a b p r s t, less_times (orient a b p) (dot s t r) (orient a b r), less_times (orient a b r) (dot s t p) (orient a b p))) in
    omega (arith, ints)

-- a point of the triangle abp that is not on ab is in the diamond of ab, where p is
inner_diamond : (a b p r : Point) → IsInLeftDiamond a b p → IsInClosedTriangle a b p r → pos 0 <ℤ orient a b r → IsInLeftDiamond a b r
inner_diamond a b p r h i above =
    record {
      left = above;
      angle_at_p = below_angle a b p r a b i h.left above (omega (arith, ints, dot_start a b)) (dot_square a b) h.angle_at_p;
      angle_at_q = below_angle a b p r b a i h.left above (dot_square b a) (omega (arith, ints, dot_start b a)) h.angle_at_q;
    }

-- a point of the triangle abp that is not lower over ab than p is where p is
top_alone : (a b p r : Point) → pos 0 <ℤ orient a b p → IsInClosedTriangle a b p r → orient a b p ≤ℤ orient a b r → dot p r r ≡ pos 0
top_alone a b p r area i high =
    let bc = i.left_of_bc in
    let ca = i.left_of_ca in
    let four = orient_four a b p r in
    let m1 = mul-zero (dot p r a) (orient b p r) (omega (arith, ints)) in
    let m2 = mul-zero (dot p r b) (orient p a r) (omega (arith, ints)) in
    let m3 = mul-zero (orient a b r) (dot p r p) (dot_start p r) in
    zero-from-mul (orient a b p) (dot p r r) area (omega (arith, ints, barycentric_dot a b p r p r))

-- two points at no distance are not in order
not_in_order : (p r : Point) → dot p r r ≡ pos 0 → ¬ (Precedes p r ⊎ Precedes r p)
unfolding dot
not_in_order p r e h =
    let x = zero_square (r.x -ℤ p.x) (omega (arith, ints, square-nonneg (r.x -ℤ p.x), square-nonneg (r.y -ℤ p.y))) in
    let y = zero_square (r.y -ℤ p.y) (omega (arith, ints, square-nonneg (r.x -ℤ p.x), square-nonneg (r.y -ℤ p.y))) in
    omega (arith, ints, h)

-- a point of the triangle abp on ab is a point of the triangle abz on the same side
base_inside : (a b p z r : Point) → pos 0 <ℤ orient a b p → pos 0 <ℤ orient a b z → IsInClosedTriangle a b p r → orient a b r ≡ pos 0 → IsInClosedTriangle a b z r
base_inside a b p z r area turn i on =
    let n1 = mul-nonneg (orient b p r) (orient b z a) i.left_of_bc (omega (arith, ints, orient_turned a b z)) in
    let n2 = mul-zero (orient p a r) (orient b z b) (orient_return b z) in
    let n3 = mul-zero (orient b z p) (orient a b r) on in
    let k1 = mul-zero (orient b p r) (orient z a a) (orient_last_twice z a) in
    let k2 = mul-nonneg (orient p a r) (orient z a b) i.left_of_ca (omega (arith, ints, orient_turned z a b)) in
    let k3 = mul-zero (orient z a p) (orient a b r) on in
    record {
      left_of_ab = i.left_of_ab;
      left_of_bc = nonneg-from-mul (orient a b p) (orient b z r) area (omega (arith, ints, barycentric_orient a b p r b z));
      left_of_ca = nonneg-from-mul (orient a b p) (orient z a r) area (omega (arith, ints, barycentric_orient a b p r z a));
    }

-- a lowest point is alone
lowest_alone : (ps : List Point) (a b p z r : ℕ) → IsPointSet ps → IsBare ps a b z → IsLowest ps a b (length ps) p → r < length ps
    → IsInClosedTriangle (point_at ps a) (point_at ps b) (point_at ps p) (point_at ps r) → (r ≡ a) ⊎ ((r ≡ b) ⊎ (r ≡ p))
lowest_alone ps a b p z r set bare low r_in i =
    let h = low.in_diamond in
    let area = h.left in
    by_lt_z (pos 0) (orient (point_at ps a) (point_at ps b) (point_at ps r))
    (λ above.
    let not_lower = low.lowest r r_in (inner_diamond (point_at ps a) (point_at ps b) (point_at ps p) (point_at ps r) h i above) in
    let at_p = top_alone (point_at ps a) (point_at ps b) (point_at ps p) (point_at ps r) area i not_lower in
    ⊎_elim
    (λ e. inr (inr e))
    (λ ne. absurd (not_in_order (point_at ps p) (point_at ps r) at_p
    (⊎_elim
    (λ l. inl (set.ascending p r _ l r_in))
    (λ l. inr (set.ascending r p _ (omega (arith, l, ne)) low.before))
    (cases_lt p r))))
    (cases_eq r p))
    (λ below.
    let ab = i.left_of_ab in
    let turn = bare.turns_left in
    let on : orient (point_at ps a) (point_at ps b) (point_at ps r) ≡ pos 0 = omega (arith, ints) in
    ⊎_elim
    (λ e. inl e)
    (λ o. ⊎_elim
    (λ e. inr (inl e))
    (λ e. let same = ap (λ x. orient (point_at ps a) (point_at ps b) (point_at ps x)) e in absurd (omega (arith, ints)))
    o)
    (bare.bare r r_in (base_inside (point_at ps a) (point_at ps b) (point_at ps p) (point_at ps z) (point_at ps r) area turn i on)))

pub some_goal : (ps : List Point) (a b z r : ℕ) → IsPointSet ps → IsBare ps a b z → r < length ps → IsInLeftDiamond (point_at ps a) (point_at ps b) (point_at ps r)
    → (p : ℕ) × IsGoal ps a b p
some_goal ps a b z r set bare r_in h =
    ⊎_elim
    (λ f. let low = f.1 in (f.0, record { within = low.before; in_diamond = low.in_diamond; alone = λ x x_in i. lowest_alone ps a b f.0 z x set bare low x_in i }))
    (λ none. absurd (none r r_in h))
    (lowest_or_none ps a b (length ps))
