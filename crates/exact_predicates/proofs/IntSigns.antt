-- The sign of a product of integers.
use Rattle.std.proofs.Common.{◌≡◌, ℕ, zero, suc, ℤ, pos, negsuc, ◌*ℤ◌, ◌≤ℤ◌, ◌<ℤ◌, arith, refl}
use Rattle.std.proofs.lemmas.Int.{ints}
use Rattle.exact_predicates.proofs.Products.{product_parts}

pub square-nonneg : (a : ℤ) → pos 0 ≤ℤ (a *ℤ a)
square-nonneg (pos a) = omega (arith, ints)
square-nonneg (negsuc a) = omega (arith, ints)

pub mul-nonneg : (a b : ℤ) → pos 0 ≤ℤ a → pos 0 ≤ℤ b → pos 0 ≤ℤ (a *ℤ b)
mul-nonneg (pos a) (pos b) h k = omega (arith, ints)
mul-nonneg (pos a) (negsuc b) h k = absurd (omega (arith, ints))
mul-nonneg (negsuc a) b h k = absurd (omega (arith, ints))

pub mul-pos : (a b : ℤ) → pos 0 <ℤ a → pos 0 <ℤ b → pos 0 <ℤ (a *ℤ b)
mul-pos (pos zero) b h k = absurd (omega (arith, ints))
mul-pos (pos (suc a)) (pos zero) h k = absurd (omega (arith, ints))
mul-pos (pos (suc a)) (pos (suc b)) h k = omega (arith, ints)
mul-pos (pos (suc a)) (negsuc b) h k = absurd (omega (arith, ints))
mul-pos (negsuc a) b h k = absurd (omega (arith, ints))

-- a factor is not negative where the other is positive and the product is not negative
pub nonneg-from-mul : (a b : ℤ) → pos 0 <ℤ a → pos 0 ≤ℤ (a *ℤ b) → pos 0 ≤ℤ b
nonneg-from-mul a (pos b) h k = omega (arith, ints)
nonneg-from-mul (pos zero) (negsuc b) h k = absurd (omega (arith, ints))
nonneg-from-mul (pos (suc a)) (negsuc b) h k = absurd (omega (arith, ints, product_parts (pos (suc a)) (negsuc b)))
nonneg-from-mul (negsuc a) (negsuc b) h k = absurd (omega (arith, ints))

-- a factor is 0 where the other is positive and the product is 0
pub zero-from-mul : (a b : ℤ) → pos 0 <ℤ a → a *ℤ b ≡ pos 0 → b ≡ pos 0
zero-from-mul (pos zero) b l e = absurd (omega (arith, ints))
zero-from-mul (pos (suc a)) (pos b) l e = omega (arith, ints)
zero-from-mul (pos (suc a)) (negsuc b) l e = absurd (omega (arith, ints, product_parts (pos (suc a)) (negsuc b)))
zero-from-mul (negsuc a) b l e = absurd (omega (arith, ints))

-- a factor is positive where the other and the product are
pub pos-from-mul : (a b : ℤ) → pos 0 <ℤ a → pos 0 <ℤ (a *ℤ b) → pos 0 <ℤ b
pos-from-mul a (pos zero) h k = absurd (omega (arith, ints))
pos-from-mul a (pos (suc b)) h k = omega (arith, ints)
pos-from-mul a (negsuc b) h k = absurd (omega (arith, ints, nonneg-from-mul a (negsuc b) h (omega (arith, ints))))
