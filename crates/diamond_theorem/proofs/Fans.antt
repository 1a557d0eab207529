-- A fan at the point that is farthest from the middle of an edge has an inner edge to flip.
use Rattle.std.proofs.Common.{◌≡◌, ℤ, pos, ◌+ℤ◌, ◌-ℤ◌, ◌*ℤ◌, ◌≤ℤ◌, ◌<ℤ◌, List, [], ◌∷◌, All, arith, ap, refl, inl, inr}
use Rattle.std.proofs.lemmas.Int.{ints, by_lt_z}
use Rattle.std.proofs.lemmas.List.Elements.{All-cons, All-head, All-nil, All-tail}
use Rattle.exact_predicates.specs.declared.point.Point.{Point}
use Rattle.exact_predicates.specs.Plane.{Crosses, dot, orient}
use Rattle.exact_predicates.proofs.Barycentric.{barycentric_orient}
use Rattle.exact_predicates.proofs.HalfPlane.{left_turn_strict}
use Rattle.exact_predicates.proofs.IntSigns.{mul-nonneg, mul-pos, square-nonneg}
use Rattle.exact_predicates.proofs.Orientation.{orient_turned, orient_swapped, orient_swapped_last, orient_four, orient_return, orient_last_twice}
use Rattle.exact_predicates.proofs.Ring.{var, plus, less, times, ring}
use Rattle.diamond_theorem.specs.Fans.{IsFan, IsInward, HasFlip, last_of}
use Rattle.diamond_theorem.specs.Laws.{FansFlip}
use Rattle.diamond_theorem.proofs.Axis.{across_at, dot_as_orient}
use Rattle.diamond_theorem.proofs.Discs.{away, power_grows}
use Rattle.diamond_theorem.proofs.Signs.{mul-neg, mul-zero, zero_square}

-- z lies strictly to the left of the line from e to v
abbrev Left : Point → Point → Point → Type 0
Left e v z = pos 0 <ℤ orient e v z

-- What is not farther from the middle of ab than v lies on one side of a line through v, seen from this point on it.
abbrev beside : Point → Point → Point → Point
beside a b v = across_at v (away a b v) v

inward_left : (a b v z : Point) → IsInward a b v z → pos 0 <ℤ dot v z z → Left (beside a b v) v z
inward_left a b v z near apart =
    omega (arith, ints, power_grows a b v z, dot_as_orient v (away a b v) z, orient_swapped (beside a b v) v z)

-- nothing turns from a point at v
no_turn : (v x y : Point) → dot v x x ≤ℤ pos 0 → orient v x y ≡ pos 0
unfolding dot orient
no_turn v x y h =
    let dx = zero_square (x.x -ℤ v.x) (omega (arith, ints, square-nonneg (x.x -ℤ v.x), square-nonneg (x.y -ℤ v.y))) in
    let dy = zero_square (x.y -ℤ v.y) (omega (arith, ints, square-nonneg (x.x -ℤ v.x), square-nonneg (x.y -ℤ v.y))) in
    let m = mul-zero (y.y -ℤ v.y) (x.x -ℤ v.x) dx in
    let n = mul-zero (y.x -ℤ v.x) (x.y -ℤ v.y) dy in
    omega (arith, ints)

-- so where two points are seen from v in a turn, both are apart from v
turn_apart : (v x y : Point) → pos 0 <ℤ orient v x y → (pos 0 <ℤ dot v x x) × (pos 0 <ℤ dot v y y)
turn_apart v x y turn = (
  by_lt_z (pos 0) (dot v x x) (λ h. h) (λ h. absurd (omega (arith, ints, no_turn v x y h))),
  by_lt_z (pos 0) (dot v y y) (λ h. h) (λ h. absurd (omega (arith, ints, no_turn v y x h, orient_swapped_last v x y))),
)

-- so all points of a fan after its first lie on that side
fan_left : (a b v x : Point) (ys : List Point) → IsFan v x ys → All (IsInward a b v) ys → All (Left (beside a b v) v) ys
fan_left a b v x [] fan near = All-nil (Left (beside a b v) v)
fan_left a b v x (y ∷ ys) fan near =
    All-cons (Left (beside a b v) v) y ys
    (inward_left a b v y (All-head (IsInward a b v) y ys near) (turn_apart v x y fan.0).1)
    (fan_left a b v y ys fan.1 (All-tail (IsInward a b v) y ys near))

-- in a fan on one side of a line through v the last point is to the left of the first
fan_last : (e v x y : Point) (ys : List Point) → Left e v x → All (Left e v) (y ∷ ys) → IsFan v x (y ∷ ys) → pos 0 <ℤ orient v x (last_of y ys)
fan_last e v x y [] hx h fan = fan.0
fan_last e v x y (z ∷ zs) hx h fan =
    let rest = All-tail (Left e v) y (z ∷ zs) h in
    left_turn_strict e v x y (last_of z zs) hx (All-head (Left e v) y (z ∷ zs) h) (last_left z zs rest) (omega (arith, ints, fan.0))
    (fan_last e v y z zs (All-head (Left e v) y (z ∷ zs) h) rest fan.1)
  where
    last_left : (t : Point) (ts : List Point) → All (Left e v) (t ∷ ts) → Left e v (last_of t ts)
    last_left t [] k = All-head (Left e v) t [] k
    last_left t (s ∷ ss) k = last_left s ss (All-tail (Left e v) t (s ∷ ss) k)

-- a point r in the angle at v between u and w, that a line parts from these three, lies beyond uw
beyond : (e f v u w r : Point) → pos 0 <ℤ orient v u w → pos 0 <ℤ orient v u r → pos 0 <ℤ orient v r w
    → pos 0 ≤ℤ orient e f u → pos 0 ≤ℤ orient e f w → pos 0 <ℤ orient e f v → orient e f r <ℤ pos 0 → orient u w r <ℤ pos 0
beyond e f v u w r area ur rw_ hu hw hv hr =
    let m0 = mul-neg (orient v u w) (orient e f r) area hr in
    let m1 = mul-nonneg (orient w v r) (orient e f u) (omega (arith, ints, orient_turned w v r)) hu in
    let m2 = mul-nonneg (orient v u r) (orient e f w) (omega (arith, ints)) hw in
    by_lt_z (orient u w r) (pos 0)
    (λ h. h)
    (λ h. let m = mul-nonneg (orient u w r) (orient e f v) h (omega (arith, ints)) in
    absurd (omega (arith, ints, barycentric_orient v u w r e f)))

sum_times : (x y z w : ℤ) → (x +ℤ (y +ℤ z)) *ℤ w ≡ (x *ℤ w) +ℤ ((y *ℤ w) +ℤ (z *ℤ w))
sum_times x y z w =
    ring (x ∷ y ∷ z ∷ w ∷ [])
    (times (plus (var 0) (plus (var 1) (var 2))) (var 3))
    (plus (times (var 0) (var 3)) (plus (times (var 1) (var 3)) (times (var 2) (var 3))))
    (omega arith)

times_less : (w x y : ℤ) → w *ℤ (x -ℤ y) ≡ (w *ℤ x) -ℤ (w *ℤ y)
times_less w x y = ring (w ∷ x ∷ y ∷ []) (times (var 0) (less (var 1) (var 2))) (less (times (var 0) (var 1)) (times (var 0) (var 2))) (omega arith)

-- where y is strictly farther beyond uw than x, and z no farther than y, the edge from v to y crosses that from x to z
fan_crosses : (u w v x y z : Point) → pos 0 <ℤ orient u w v → pos 0 <ℤ orient v x y → pos 0 <ℤ orient v y z → pos 0 <ℤ orient v x z
    → orient u w y <ℤ pos 0 → orient u w y <ℤ orient u w x → orient u w y ≤ℤ orient u w z → Crosses v y x z
fan_crosses u w v x y z hv xy yz xz deep hx hz =
    let convex : orient x z y <ℤ pos 0 = by_lt_z (orient x z y) (pos 0)
    (λ h. h)
    (λ h. let m1 = mul-nonneg (orient x z y) (orient u w v -ℤ orient u w y) h (omega (arith, ints)) in
    let m2 = mul-pos (orient z v y) (orient u w x -ℤ orient u w y) (omega (arith, ints, orient_turned z v y)) (omega (arith, ints)) in
    let m3 = mul-nonneg (orient v x y) (orient u w z -ℤ orient u w y) (omega (arith, ints)) (omega (arith, ints)) in
    let whole : orient v x z ≡ orient x z y +ℤ (orient z v y +ℤ orient v x y) = omega (arith, ints, orient_four v x z y) in
    let scaled = ap (λ t. t *ℤ orient u w y) whole in
    absurd (omega (
      arith,
      ints,
      barycentric_orient v x z y u w,
      sum_times (orient x z y) (orient z v y) (orient v x y) (orient u w y),
      times_less (orient x z y) (orient u w v) (orient u w y),
      times_less (orient z v y) (orient u w x) (orient u w y),
      times_less (orient v x y) (orient u w z) (orient u w y),
    ))) in
    record {
      by_line = inl (omega (arith, ints, orient_swapped_last v x y), yz);
      by_other = inr (omega (arith, ints, orient_turned v x z), convex);
    }

-- a flip of a fan with one point more before it
flip_later : (v x : Point) (fan : List Point) → HasFlip v fan → HasFlip v (x ∷ fan)
flip_later v x fan f = record { before = x ∷ f.before; x = f.x; y = f.y; z = f.z; after = f.after; follow = ap (λ l. x ∷ l) f.follow; crosses = f.crosses }

-- From x to y the fan goes away from uw, where it ends: the first point that no farther one follows can be cut off.
flip_at_top : (u w e v x y : Point) (ys : List Point) → pos 0 <ℤ orient u w v → Left e v x → All (Left e v) (y ∷ ys)
    → IsFan v x (y ∷ ys) → orient u w y <ℤ orient u w x → orient u w y <ℤ pos 0 → pos 0 ≤ℤ orient u w (last_of y ys) → HasFlip v (x ∷ y ∷ ys)
flip_at_top u w e v x y [] hv hx h fan up deep end = absurd (omega (arith, ints))
flip_at_top u w e v x y (z ∷ zs) hv hx h fan up deep end =
    let hy = All-head (Left e v) y (z ∷ zs) h in
    let rest = All-tail (Left e v) y (z ∷ zs) h in
    let hz = All-head (Left e v) z zs rest in
    let onward = fan.1 in
    by_lt_z (orient u w z) (orient u w y)
    (λ farther. flip_later v x (y ∷ z ∷ zs) (flip_at_top u w e v y z zs hv hy rest fan.1 farther (omega (arith, ints)) end))
    (λ top. record {
      before = [];
      x = x;
      y = y;
      z = z;
      after = zs;
      follow = refl;
      crosses = fan_crosses u w v x y z hv fan.0 onward.0 (left_turn_strict e v x y z hx hy hz (omega (arith, ints, fan.0)) onward.0) deep up top;
    })

pub fans_flip : FansFlip
fans_flip a b e f v u r [] fan inward hu hw hv hr = absurd (omega (arith, ints))
fans_flip a b e f v u r (s ∷ ss) fan inward hu hw hv hr =
    let near = All-tail (IsInward a b v) u (r ∷ s ∷ ss) inward in
    let left_u = inward_left a b v u (All-head (IsInward a b v) u (r ∷ s ∷ ss) inward) (turn_apart v u r fan.0).0 in
    let rest = fan_left a b v u (r ∷ s ∷ ss) fan near in
    let uw = fan_last (beside a b v) v u r (s ∷ ss) left_u rest fan in
    let r_w = fan_last (beside a b v) v r s ss (All-head (Left (beside a b v) v) r (s ∷ ss) rest) (All-tail (Left (beside a b v) v) r (s ∷ ss) rest) fan.1 in
    let deep = beyond e f v u (last_of s ss) r uw fan.0 r_w hu hw hv hr in
    flip_at_top u (last_of s ss) (beside a b v) v u r (s ∷ ss) (omega (arith, ints, orient_turned v u (last_of s ss))) left_u rest fan
    (omega (arith, ints, orient_return u (last_of s ss))) deep (omega (arith, ints, orient_last_twice u (last_of s ss)))
