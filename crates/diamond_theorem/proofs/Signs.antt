-- Signs of products where a factor is not positive, and of factors by a product. Factors may come in either order: a tactic for
-- sums takes the two products for one.
use Rattle.std.proofs.Common.{◌≡◌, zero, suc, ℤ, pos, negsuc, ◌-ℤ◌, ◌*ℤ◌, ◌≤ℤ◌, ◌<ℤ◌, arith, ap, ◌∙◌, [], ◌∷◌}
use Rattle.std.proofs.lemmas.Int.{ints, by_lt_z}
use Rattle.std.proofs.Math.IntN.{*ℤ-zero}
use Rattle.exact_predicates.proofs.IntSigns.{mul-nonneg, mul-pos}
use Rattle.exact_predicates.proofs.Ring.{var, num, less, times, ring}

-- the opposite of a factor
pub times_opposite : (a b : ℤ) → a *ℤ (pos 0 -ℤ b) ≡ pos 0 -ℤ (a *ℤ b)
times_opposite a b = ring (a ∷ b ∷ []) (times (var 0) (less (num (pos 0)) (var 1))) (less (num (pos 0)) (times (var 0) (var 1))) (omega arith)

pub mul-nonpos : (a b : ℤ) → pos 0 ≤ℤ a → b ≤ℤ pos 0 → (a *ℤ b) ≤ℤ pos 0
mul-nonpos a b h k = let m = mul-nonneg a (pos 0 -ℤ b) h (omega (arith, ints)) in omega (arith, ints, times_opposite a b)

pub mul-neg : (a b : ℤ) → pos 0 <ℤ a → b <ℤ pos 0 → (a *ℤ b) <ℤ pos 0
mul-neg a b h k = let m = mul-pos a (pos 0 -ℤ b) h (omega (arith, ints)) in omega (arith, ints, times_opposite a b)

-- two factors that are not positive
pub mul-both_nonpos : (a b : ℤ) → a ≤ℤ pos 0 → b ≤ℤ pos 0 → pos 0 ≤ℤ (a *ℤ b)
mul-both_nonpos a b h k = let m = mul-nonpos (pos 0 -ℤ b) a (omega (arith, ints)) h in omega (arith, ints, times_opposite a b)

pub mul-both_neg : (a b : ℤ) → a <ℤ pos 0 → b <ℤ pos 0 → pos 0 <ℤ (a *ℤ b)
mul-both_neg a b h k = let m = mul-neg (pos 0 -ℤ b) a (omega (arith, ints)) h in omega (arith, ints, times_opposite a b)

-- a product with zero
pub mul-zero : (a b : ℤ) → b ≡ pos 0 → a *ℤ b ≡ pos 0
mul-zero a b e = ap (λ t. a *ℤ t) e ∙ *ℤ-zero a

-- a factor is not positive where the other is positive and the product is not
pub nonpos-from-mul : (a b : ℤ) → pos 0 <ℤ a → (a *ℤ b) ≤ℤ pos 0 → b ≤ℤ pos 0
nonpos-from-mul a b h k = by_lt_z (pos 0) b (λ l. let m = mul-pos a b h l in absurd (omega (arith, ints))) (λ l. l)

-- a factor is positive where the other is not negative and the product is positive
pub pos-from-pos : (a b : ℤ) → pos 0 ≤ℤ a → pos 0 <ℤ (a *ℤ b) → pos 0 <ℤ b
pos-from-pos a b h k = by_lt_z (pos 0) b (λ l. l) (λ l. let m = mul-nonpos a b h l in absurd (omega (arith, ints)))

-- and where the other is not positive and the product is negative
pub pos-from-neg : (a b : ℤ) → a ≤ℤ pos 0 → (a *ℤ b) <ℤ pos 0 → pos 0 <ℤ b
pos-from-neg a b h k = by_lt_z (pos 0) b (λ l. l) (λ l. let m = mul-both_nonpos a b h l in absurd (omega (arith, ints)))

-- a factor is negative where the other is not negative and the product is negative
pub neg-from-neg : (a b : ℤ) → pos 0 ≤ℤ a → (a *ℤ b) <ℤ pos 0 → b <ℤ pos 0
neg-from-neg a b h k = by_lt_z b (pos 0) (λ l. l) (λ l. let m = mul-nonneg a b h l in absurd (omega (arith, ints)))

-- a square that is not positive is that of 0
pub zero_square : (x : ℤ) → (x *ℤ x) ≤ℤ pos 0 → x ≡ pos 0
zero_square (pos zero) h = omega (arith, ints)
zero_square (pos (suc n)) h = absurd (omega (arith, ints))
zero_square (negsuc n) h = absurd (omega (arith, ints))
