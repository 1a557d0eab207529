-- Numbers on their way through the bits of an i64, and products of bounded numbers.
use Rattle.std.proofs.Common.{arith, ◌≡◌, ◌*◌, ◌^◌, ◌≤◌, ℤ, pos, FitsSigned, ◌+ℤ◌, ◌-ℤ◌, ◌*ℤ◌, ◌≤ℤ◌, ◌<ℤ◌, to_z, of_z, unsigned_abs, w64, IsTrue, [], ◌∷◌, refl}
use Rattle.std.specs.Int.{int_max}
use Rattle.std.specs.Int.Signed.{lt_z, le_z}
use Rattle.std.proofs.lemmas.Int.{ints, int_max_is, unsigned_abs-mul}
use Rattle.std.proofs.lemmas.Nat.{mul-le}
use Rattle.exact_predicates.proofs.Gaps.{kept}
use Rattle.exact_predicates.proofs.IntSigns.{mul-nonneg}
use Rattle.exact_predicates.proofs.Ring.{var, num, less, times, ring}

pub kept_sum : (x y : ℤ) → unsigned_abs x ≤ 4 * 10 ^ 18 → unsigned_abs y ≤ 4 * 10 ^ 18 → to_z w64 (of_z w64 (to_z w64 (of_z w64 x) +ℤ to_z w64 (of_z w64 y))) ≡ x +ℤ y
kept_sum x y h k = omega (arith, ints)

pub distribute : (a b c : ℤ) → a *ℤ (b -ℤ c) ≡ (a *ℤ b) -ℤ (a *ℤ c)
distribute a b c = ring (a ∷ b ∷ c ∷ []) (times (var 0) (less (var 1) (var 2))) (less (times (var 0) (var 1)) (times (var 0) (var 2))) (omega arith)

-- products with a number that is not negative, and with one that is not positive, in the order of their factors
pub mul-le_up : (a b c : ℤ) → pos 0 ≤ℤ a → b ≤ℤ c → (a *ℤ b) ≤ℤ (a *ℤ c)
mul-le_up a b c h k = omega (arith, ints, distribute a c b, mul-nonneg a (c -ℤ b) h (omega (arith, ints)))

turned : (a b c : ℤ) → (pos 0 -ℤ a) *ℤ (b -ℤ c) ≡ (a *ℤ c) -ℤ (a *ℤ b)
turned a b c = ring (a ∷ b ∷ c ∷ []) (times (less (num (pos 0)) (var 0)) (less (var 1) (var 2))) (less (times (var 0) (var 2)) (times (var 0) (var 1))) (omega arith)

pub mul-le_down : (a b c : ℤ) → a ≤ℤ pos 0 → b ≤ℤ c → (a *ℤ c) ≤ℤ (a *ℤ b)
mul-le_down a b c h k = omega (arith, ints, turned a c b, mul-nonneg (pos 0 -ℤ a) (c -ℤ b) (omega (arith, ints)) (omega (arith, ints)))

-- a number that is smaller still
pub kept64 : (x : ℤ) → unsigned_abs x ≤ 2 * 10 ^ 10 → to_z w64 (of_z w64 x) ≡ x
kept64 x h = kept x (omega (arith, h))

pub sum_le : (a b c d : ℤ) → a ≤ℤ c → b ≤ℤ d → (a +ℤ b) ≤ℤ (c +ℤ d)
sum_le a b c d h k = omega (arith, ints)

small_product : (m x : ℤ) → unsigned_abs m ≤ 5 → unsigned_abs x ≤ 2 * 10 ^ 9 → unsigned_abs (m *ℤ x) ≤ 10 ^ 10
small_product m x h k = omega (arith, unsigned_abs-mul m x, mul-le _ _ _ _ h k)

small_sum : (a b : ℤ) → unsigned_abs a ≤ 10 ^ 10 → unsigned_abs b ≤ 10 ^ 10 → unsigned_abs (a +ℤ b) ≤ 2 * 10 ^ 10
small_sum a b h k = omega (arith, ints)

module _ (m x n y : ℤ) (hm : unsigned_abs m ≤ 5) (hx : unsigned_abs x ≤ 2 * 10 ^ 9) (hn : unsigned_abs n ≤ 5) (hy : unsigned_abs y ≤ 2 * 10 ^ 9) where
  -- a sum of small multiples
  pub mixed_le : unsigned_abs ((m *ℤ x) +ℤ (n *ℤ y)) ≤ 2 * 10 ^ 10
  mixed_le = small_sum (m *ℤ x) (n *ℤ y) (small_product m x hm hx) (small_product n y hn hy)

  parts : to_z w64 (of_z w64 (to_z w64 (of_z w64 m) *ℤ to_z w64 (of_z w64 x))) +ℤ to_z w64 (of_z w64 (to_z w64 (of_z w64 n) *ℤ to_z w64 (of_z w64 y))) ≡ (m *ℤ x) +ℤ (n *ℤ y)
  parts =
      let p = small_product m x hm hx in
      let q = small_product n y hn hy in
      rw (kept64 m (omega arith), kept64 x (omega arith), kept64 n (omega arith), kept64 y (omega arith), kept64 (m *ℤ x) (omega arith), kept64 (n *ℤ y) (omega arith)) refl

  pub fits_mixed : FitsSigned w64 (to_z w64 (of_z w64 (to_z w64 (of_z w64 m) *ℤ to_z w64 (of_z w64 x))) +ℤ to_z w64 (of_z w64 (to_z w64 (of_z w64 n) *ℤ to_z w64 (of_z w64 y))))
  fits_mixed = rw parts (fits _ mixed_le)
    where
      fits : (z : ℤ) → unsigned_abs z ≤ 2 * 10 ^ 10 → FitsSigned w64 z
      fits z h = omega (arith, ints)

  pub kept_mixed : to_z w64 (of_z w64 (to_z w64 (of_z w64 (to_z w64 (of_z w64 m) *ℤ to_z w64 (of_z w64 x))) +ℤ to_z w64 (of_z w64 (to_z w64 (of_z w64 n) *ℤ to_z w64 (of_z w64 y))))) ≡ (m *ℤ x) +ℤ (n *ℤ y)
  kept_mixed = rw parts (kept64 _ mixed_le)

-- tests
pub lt_true : (a b : ℤ) → IsTrue (lt_z a b) → a <ℤ b
lt_true a b h = grind (arith, ints)

pub true_le : (a b : ℤ) → a ≤ℤ b → IsTrue (le_z a b)
true_le a b h = grind (arith, ints)

pub le_true : (a b : ℤ) → IsTrue (le_z a b) → a ≤ℤ b
le_true a b h = grind (arith, ints)

-- the greater of a number and 0
pub max_le : (a m x : ℤ) → m ≡ int_max a (pos 0) → a ≤ℤ x → pos 0 ≤ℤ x → m ≤ℤ x
max_le a m x e h k = omega (arith, ints, e, int_max_is a (pos 0))

pub le_max : (a m : ℤ) → m ≡ int_max a (pos 0) → a ≤ℤ m
le_max a m e = omega (arith, ints, e, int_max_is a (pos 0))

pub max_nonneg : (a m : ℤ) → m ≡ int_max a (pos 0) → pos 0 ≤ℤ m
max_nonneg a m e = omega (arith, ints, e, int_max_is a (pos 0))

pub max_small : (a m : ℤ) → m ≡ int_max a (pos 0) → unsigned_abs a ≤ 8 * 10 ^ 18 → unsigned_abs m ≤ 8 * 10 ^ 18
max_small a m e h = omega (arith, ints, e, int_max_is a (pos 0))

-- a difference of two such numbers that are not negative
pub kept_less : (x y : ℤ) → pos 0 ≤ℤ x → unsigned_abs x ≤ 8 * 10 ^ 18 → pos 0 ≤ℤ y → unsigned_abs y ≤ 8 * 10 ^ 18
    → to_z w64 (of_z w64 (to_z w64 (of_z w64 x) -ℤ to_z w64 (of_z w64 y))) ≡ x -ℤ y
kept_less x y h k l m = omega (arith, ints)

pub le_through : (a b c : ℤ) → a ≤ℤ b → b ≤ℤ c → a ≤ℤ c
le_through a b c h k = omega (arith, ints)
