-- The product of two integers, by the natural parts of its factors.
use Rattle.std.proofs.Common.{ℕ, zero, suc, ℤ, pos, negsuc, ◌+◌, ◌*◌, ◌*ℤ◌, ◌≡◌, arith, ap}
use Rattle.std.proofs.lemmas.Int.{ints}
use Rattle.std.proofs.Math.IntN.{neg_ℤ, pos-*ℤ-negsuc, negsuc-*ℤ-pos}
use borrow.Author.Differences.{up, down}

neg_parts : (n : ℕ) → (up (neg_ℤ (pos n)) ≡ 0) × (down (neg_ℤ (pos n)) ≡ n)
neg_parts zero = omega arith
neg_parts (suc n) = omega arith

pub product_parts : (a b : ℤ) → up (a *ℤ b) + (up a * down b + down a * up b) ≡ down (a *ℤ b) + (up a * up b + down a * down b)
product_parts (pos a) (pos b) = omega arith
product_parts (pos a) (negsuc b) = omega (arith, ap up (pos-*ℤ-negsuc a b), ap down (pos-*ℤ-negsuc a b), neg_parts (a * suc b))
product_parts (negsuc a) (pos b) = omega (arith, ap up (negsuc-*ℤ-pos a b), ap down (negsuc-*ℤ-pos a b), neg_parts (suc a * b))
product_parts (negsuc a) (negsuc b) = omega arith

-- the rules for products, beside those for sums
pub ruleset products = (ints, product_parts)
