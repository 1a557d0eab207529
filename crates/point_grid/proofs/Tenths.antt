-- Tenths of whole numbers, rounded down, on their way through the bits of an i64.
use Rattle.std.proofs.Common.{◌≡◌, ◌*◌, ◌^◌, ◌≤◌, ℤ, pos, negsuc, ◌+ℤ◌, ◌-ℤ◌, ◌*ℤ◌, ◌≤ℤ◌, to_z, of_z, unsigned_abs, arith, sym, subst}
use Rattle.std.proofs.lemmas.Int.{ints}
use Rattle.std.specs.Int.{int_div_euclid}
use Rattle.point_grid.proofs.Bits.{kept64}
use mir.Syntax.{w64}

-- t is the tenth of n
record IsTenth (n t : ℤ) : Type 0 where
  below : (pos 10 *ℤ t) ≤ℤ n
  above : n ≤ℤ (pos 10 *ℤ (t +ℤ pos 1))
  bound : unsigned_abs n ≤ 2 * 10 ^ 10 → unsigned_abs t ≤ 2 * 10 ^ 9

IsTenth-quotient : (n : ℤ) → IsTenth n (int_div_euclid n (pos 10))
IsTenth-quotient (pos n) = record { below = omega (arith, ints); above = omega (arith, ints); bound = λ h. omega (arith, ints) }
IsTenth-quotient (negsuc n) = record { below = omega (arith, ints); above = omega (arith, ints); bound = λ h. omega (arith, ints) }

-- sums and differences of coordinates
pub kept_plus : (a b : ℤ) → unsigned_abs a ≤ 10 ^ 9 → unsigned_abs b ≤ 10 ^ 9 → to_z w64 (of_z w64 (to_z w64 (of_z w64 a) +ℤ to_z w64 (of_z w64 b))) ≡ a +ℤ b
kept_plus a b h k = omega (arith, ints)

pub kept_less : (a b : ℤ) → unsigned_abs a ≤ 10 ^ 9 → unsigned_abs b ≤ 10 ^ 9 → to_z w64 (of_z w64 (to_z w64 (of_z w64 a) -ℤ to_z w64 (of_z w64 b))) ≡ a -ℤ b
kept_less a b h k = omega (arith, ints)

pub kept_next : (t : ℤ) → unsigned_abs t ≤ 2 * 10 ^ 9 → to_z w64 (of_z w64 (to_z w64 (of_z w64 t) +ℤ pos 1)) ≡ t +ℤ pos 1
kept_next t h = omega (arith, ints)

module _ (n t x : ℤ) (is : t ≡ int_div_euclid (to_z w64 (of_z w64 n)) (pos 10)) (small : unsigned_abs n ≤ 2 * 10 ^ 10) (e : n ≡ x) where
  parts : IsTenth n t
  parts = subst (IsTenth n) (sym (rw (kept64 n small) at is)) (IsTenth-quotient n)

  kept : to_z w64 (of_z w64 t) ≡ t
  kept = let b = parts.bound small in kept64 t (omega arith)

  pub tenth_below : (pos 10 *ℤ to_z w64 (of_z w64 t)) ≤ℤ x
  tenth_below = rw (kept, sym e) parts.below

  pub tenth_above : x ≤ℤ (pos 10 *ℤ (to_z w64 (of_z w64 t) +ℤ pos 1))
  tenth_above = rw (kept, sym e) parts.above

-- past a tenth
pub tenth_down : (u t x : ℤ) → u ≤ℤ t → (pos 10 *ℤ t) ≤ℤ x → (pos 10 *ℤ u) ≤ℤ x
tenth_down u t x h k = omega (arith, ints)

pub tenth_up : (u t x : ℤ) → (t +ℤ pos 1) ≤ℤ u → x ≤ℤ (pos 10 *ℤ (t +ℤ pos 1)) → x ≤ℤ (pos 10 *ℤ u)
tenth_up u t x h k = omega (arith, ints)
