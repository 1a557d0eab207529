-- Each step of a walk lies above the one before it.
use Rattle.std.proofs.Common.{◌≡◌, ℤ, pos, ◌+ℤ◌, ◌-ℤ◌, ◌*ℤ◌, ◌<ℤ◌, arith, [], ◌∷◌, sym, subst, ⊎_elim}
use Rattle.std.proofs.lemmas.Int.{ints, by_lt_z}
use Rattle.exact_predicates.specs.declared.point.Point.{Point}
use Rattle.exact_predicates.specs.Plane.{orient}
use Rattle.exact_predicates.proofs.Barycentric.{barycentric_orient}
use Rattle.exact_predicates.proofs.IntSigns.{mul-pos, pos-from-mul}
use Rattle.exact_predicates.proofs.Orientation.{orient_turned, orient_swapped, orient_swapped_last, orient_four, orient_last_twice}
use Rattle.exact_predicates.proofs.Ring.{var, plus, less, times, ring}
use Rattle.diamond_theorem.specs.Steps.{IsStep}
use Rattle.diamond_theorem.proofs.Mirror.{mirror, orient_mirror, IsStep-mirror}
use Rattle.diamond_theorem.proofs.Signs.{mul-both_nonpos, mul-both_neg, mul-zero}
use Rattle.diamond_theorem.proofs.Steps.{right_sides, next_line}

-- how far the line from l to r leaves the edge ab behind
abbrev lead : Point → Point → Point → Point → ℤ
lead a b l r = orient l r a +ℤ orient l r b

-- the line from m to s meets the median from p to the edge ab nearer to p than the line from l to r does
abbrev pub IsAbove : Point → Point → Point → Point → Point → Point → Point → Type 0
IsAbove a b p l r m s = (lead a b m s *ℤ orient l r p) <ℤ (lead a b l r *ℤ orient m s p)

-- the right end of a step is strictly to the right of the line from a to p
pub right_strict : (a b p l r : Point) → pos 0 <ℤ orient a b p → IsStep a b p l r → orient a p r <ℤ pos 0
right_strict a b p l r area s =
    ⊎_elim
    (λ e. subst (λ x. orient a p x <ℤ pos 0) (sym e) (omega (arith, ints, orient_swapped_last a b p)))
    (λ k. by_lt_z (orient a p r) (pos 0)
    (λ h. h)
    (λ h. let ahead = s.ahead in
    let k0 = k.0 in
    let k1 = k.1 in
    let m1 = mul-both_nonpos (orient b p r) (orient l r a) (omega (arith, ints)) s.a_behind in
    let m2 = mul-zero (orient l r b) (orient p a r) (omega (arith, ints, orient_swapped a p r)) in
    let m3 = mul-pos (orient a b r) (orient l r p) (omega (arith, ints, orient_four a b p r, orient_swapped a p r)) ahead in
    let m4 = mul-zero (orient a b p) (orient l r r) (orient_last_twice l r) in
    absurd (omega (arith, ints, barycentric_orient a b p r l r))))
    s.right

-- and the left end strictly to the left of the line from b
pub left_strict : (a b p l r : Point) → pos 0 <ℤ orient a b p → IsStep a b p l r → pos 0 <ℤ orient b p l
left_strict a b p l r area s =
    let back = right_strict (mirror b) (mirror a) (mirror p) (mirror r) (mirror l) (rw (orient_mirror a b p) area) (IsStep-mirror a b p l r s) in
    omega (arith, ints, orient_mirror p b l, orient_swapped b p l)

sum_times : (a b c : ℤ) → (a +ℤ b) *ℤ c ≡ (a *ℤ c) +ℤ (b *ℤ c)
sum_times a b c =
    ring (a ∷ b ∷ c ∷ []) (times (plus (var 0) (var 1)) (var 2)) (plus (times (var 0) (var 2)) (times (var 1) (var 2))) (omega arith)

-- the side to a corner of the triangle on a step lies above it, where the corner is on the left
pub above_left : (a b p l r z : Point) → pos 0 <ℤ orient a b p → IsStep a b p l r → pos 0 <ℤ orient l r z → IsAbove a b p l r z r
above_left a b p l r z area s turn =
    let (ra, rb) = right_sides a b p r area s.right in
    let strict = right_strict a b p l r area s in
    let back : orient r l z <ℤ pos 0 = omega (arith, ints, orient_swapped l r z) in
    let m1 = mul-both_neg (orient r a p) (orient r l z) (omega (arith, ints, orient_turned r a p)) back in
    let m2 = mul-both_nonpos (orient r b p) (orient r l z) (omega (arith, ints, orient_turned r b p)) (omega (arith, ints)) in
    omega (
      arith,
      ints,
      sum_times (orient z r a) (orient z r b) (orient l r p),
      sum_times (orient l r a) (orient l r b) (orient z r p),
      next_line l r z p a,
      next_line l r z p b,
    )

-- and where it is on the right
pub above_right : (a b p l r z : Point) → pos 0 <ℤ orient a b p → IsStep a b p l r → pos 0 <ℤ orient l r z → IsAbove a b p l r l z
above_right a b p l r z area s turn =
    let back = above_left (mirror b) (mirror a) (mirror p) (mirror r) (mirror l) (mirror z) (rw (orient_mirror a b p) area) (IsStep-mirror a b p l r s) (rw (orient_mirror l r z) turn) in
    let same = rw (orient_mirror l z b, orient_mirror l z a, orient_mirror l r p, orient_mirror l r b, orient_mirror l r a, orient_mirror l z p) at back in
    omega (
      arith,
      ints,
      same,
      sum_times (orient l z a) (orient l z b) (orient l r p),
      sum_times (orient l r a) (orient l r b) (orient l z p),
      sum_times (orient l z b) (orient l z a) (orient l r p),
      sum_times (orient l r b) (orient l r a) (orient l z p),
    )

-- three fractions with positive denominators
fractions : (m d n e k f : ℤ) → e *ℤ ((m *ℤ f) -ℤ (k *ℤ d)) ≡ (f *ℤ ((m *ℤ e) -ℤ (n *ℤ d))) +ℤ (d *ℤ ((n *ℤ f) -ℤ (k *ℤ e)))
fractions m d n e k f =
    ring (m ∷ d ∷ n ∷ e ∷ k ∷ f ∷ [])
    (times (var 3) (less (times (var 0) (var 5)) (times (var 4) (var 1))))
    (plus (times (var 5) (less (times (var 0) (var 3)) (times (var 2) (var 1)))) (times (var 1) (less (times (var 2) (var 5)) (times (var 4) (var 3)))))
    (omega arith)

descend : (m d n e k f : ℤ) → pos 0 <ℤ d → pos 0 <ℤ e → pos 0 <ℤ f → (n *ℤ d) <ℤ (m *ℤ e) → (k *ℤ e) <ℤ (n *ℤ f) → (k *ℤ d) <ℤ (m *ℤ f)
descend m d n e k f hd he hf h g =
    let first = mul-pos f ((m *ℤ e) -ℤ (n *ℤ d)) hf (omega (arith, ints)) in
    let second = mul-pos d ((n *ℤ f) -ℤ (k *ℤ e)) hd (omega (arith, ints)) in
    let both = pos-from-mul e ((m *ℤ f) -ℤ (k *ℤ d)) he (omega (arith, ints, fractions m d n e k f)) in
    omega (arith, ints)

-- a step above one that is above a third is above that
pub above_transitive : (a b p l r m s x y : Point) → IsStep a b p l r → IsStep a b p m s → IsStep a b p x y
    → IsAbove a b p l r m s → IsAbove a b p m s x y → IsAbove a b p l r x y
above_transitive a b p l r m s x y first second third h k =
    descend (lead a b l r) (orient l r p) (lead a b m s) (orient m s p) (lead a b x y) (orient x y p) first.ahead second.ahead third.ahead h k
