-- Powers of ten, and decimals by their last digit that is not 0.
use Rattle.std.proofs.Common.{◌≡◌, ℕ, zero, suc, ◌+◌, ◌-◌, ◌*◌, ◌/◌, ◌%◌, ◌^◌, ◌<◌, ◌≤◌, min, true, false, inl, inr, refl, sym, ap, ◌∙◌, arith}
use Rattle.std.proofs.lemmas.Nat.{pow-add, mod-mul-add}
use Rattle.std.proofs.lemmas.Nat.Gcd.{dvd_of_mod-eq-zero}
use Rattle.std.proofs.Math.Nat.{mul-mod_left, mul-div_cancel, div-mul_cancel, zero-mod}
use Rattle.std.proofs.lemmas.Bool.{eq-eqb, ne_eqb, cases_lt}
use Rattle.tsplib_points.specs.Real.{Real, is_whole, size_times}
use Rattle.tsplib_points.specs.Kept.{Holds}

-- one more factor of ten
pub ten_more : (k : ℕ) → 10 ^ (k + 1) ≡ 10 ^ k * 10
ten_more k = pow-add 10 k 1

-- a power of ten is not 0
pub ten_pos : (k : ℕ) → 0 < 10 ^ k
ten_pos zero = omega arith
ten_pos (suc k) = let s : suc k ≡ k + 1 = omega arith in rw (s, ten_more k) (omega (arith, ten_pos k))

-- powers of ten grow
pub ten_le : (i j : ℕ) → i ≤ j → 10 ^ i ≤ 10 ^ j
ten_le i j h =
    let d : i + (j - i) ≡ j = omega arith in
    let e : 10 ^ j ≡ 10 ^ i * 10 ^ (j - i) = ap (λ k. 10 ^ k) (sym d) ∙ pow-add 10 i (j - i) in
    rw e (mul_ge (10 ^ i) (10 ^ (j - i)) (ten_pos (j - i))) where
      mul_ge : (a b : ℕ) → 0 < b → a ≤ a * b
      mul_ge a zero h = absurd (omega arith)
      mul_ge a (suc b) h = let s : suc b ≡ b + 1 = omega arith in rw s (omega arith)

-- a number with c + b zeros
shifted_whole : (full c b : ℕ) → full * 10 ^ (c + b) ≡ full * 10 ^ c * 10 ^ b
shifted_whole full c b = rw (pow-add 10 c b) (omega arith)

-- it is a multiple of 10^b
mod_is : (full c b : ℕ) → (full * 10 ^ (c + b)) % 10 ^ b ≡ 0
mod_is full c b = rw (shifted_whole full c b) (mul-mod_left (full * 10 ^ c) (10 ^ b))

-- and this many times
div_is : (full c b : ℕ) → (full * 10 ^ (c + b)) / 10 ^ b ≡ full * 10 ^ c
div_is full c b = rw (shifted_whole full c b) (mul-div_cancel (full * 10 ^ c) (ten_pos b))

-- a number that ends with no zero is no multiple of ten, with a zeros none of 10^(a+1+j)
not_mod : (full a j : ℕ) → (full % 10 ≡ 0 → ⊥) → (full * 10 ^ a) % 10 ^ (a + 1 + j) ≡ 0 → ⊥
not_mod full a j last e =
    let m = 10 ^ (a + 1 + j) in
    let q = (full * 10 ^ a) / m in
    let back : q * m ≡ full * 10 ^ a = div-mul_cancel m (dvd_of_mod-eq-zero m e) in
    let parts : m ≡ 10 ^ a * 10 * 10 ^ j = pow-add 10 (a + 1) j ∙ ap (λ z. z * 10 ^ j) (ten_more a) in
    let joined : q * m ≡ q * 10 ^ j * 10 * 10 ^ a = ap (λ z. q * z) parts ∙ regroup q (10 ^ a) (10 ^ j) in
    let e1 : full * 10 ^ a ≡ q * 10 ^ j * 10 * 10 ^ a = sym back ∙ joined in
    let e2 : full ≡ q * 10 ^ j * 10 = sym (mul-div_cancel full (ten_pos a)) ∙ ap (λ z. z / 10 ^ a) e1 ∙ mul-div_cancel (q * 10 ^ j * 10) (ten_pos a) in
    last (ap (λ z. z % 10) e2 ∙ mul-mod_left (q * 10 ^ j) 10) where
      regroup : (q a j : ℕ) → q * (a * 10 * j) ≡ q * j * 10 * a
      regroup q a j = omega arith

-- what is said of r by its number without the zeros at its end
numer : (r : Real) (full zeros k : ℕ) → r.digits ≡ full * 10 ^ zeros → r.digits * 10 ^ (r.right + k) ≡ full * 10 ^ (zeros + r.right + k)
numer r full zeros k e =
    let p : 10 ^ (zeros + r.right + k) ≡ 10 ^ zeros * 10 ^ (r.right + k) = ap (λ z. 10 ^ z) (omega arith) ∙ pow-add 10 zeros (r.right + k) in
    rw (e, p) (omega arith)

-- a decimal is whole where it has zeros enough
pub whole_is : (r : Real) (full zeros k c : ℕ) → r.digits ≡ full * 10 ^ zeros → zeros + r.right + k ≡ c + (r.places + r.left) → is_whole k r ≡ true
unfolding is_whole
whole_is r full zeros k c e h = eq-eqb _ _ (rw (numer r full zeros k e, h) (mod_is full c (r.places + r.left)))

-- and this is its size
pub size_is : (r : Real) (full zeros k c : ℕ) → r.digits ≡ full * 10 ^ zeros → zeros + r.right + k ≡ c + (r.places + r.left) → size_times k r ≡ full * 10 ^ c
unfolding size_times
size_is r full zeros k c e h = rw (numer r full zeros k e, h) (div_is full c (r.places + r.left))

-- it is not whole where its places outweigh its zeros
pub not_whole : (r : Real) (full zeros k j : ℕ) → r.digits ≡ full * 10 ^ zeros → (full % 10 ≡ 0 → ⊥) → r.places + r.left ≡ zeros + r.right + k + 1 + j → is_whole k r ≡ false
unfolding is_whole
not_whole r full zeros k j e last h = ne_eqb _ _ (λ z. not_mod full (zeros + r.right + k) j last (rw (numer r full zeros k e, h) at z))

-- 0 times a number
zero_mul : (m : ℕ) → 0 * m ≡ 0
zero_mul m = omega arith

-- 0 is whole
pub zero_whole : (r : Real) (k : ℕ) → r.digits ≡ 0 → is_whole k r ≡ true
unfolding is_whole
zero_whole r k e = eq-eqb _ _ (rw (e, zero_mul (10 ^ (r.right + k))) (zero-mod (10 ^ (r.places + r.left))))

-- and its size is 0
pub zero_size : (r : Real) (k : ℕ) → r.digits ≡ 0 → size_times k r ≡ 0
unfolding size_times
zero_size r k e = rw e (ap (λ z. z / 10 ^ (r.places + r.left)) (zero_mul (10 ^ (r.right + k)) ∙ sym (zero_mul (10 ^ (r.places + r.left)))) ∙ mul-div_cancel 0 (ten_pos (r.places + r.left)))

-- a product is not below its first factor
pub mul_le_grows : (a b p : ℕ) → 0 < p → a ≤ b → a ≤ b * p
mul_le_grows a b zero h l = absurd (omega arith)
mul_le_grows a b (suc p) h l = let s : suc p ≡ p + 1 = omega arith in rw s (omega arith)

-- a cap before a product is no other than one after it
pub capped : (full p d : ℕ) → 0 < p → min (min full 1000000001 * p + d) 1000000001 ≡ min (full * p + d) 1000000001
capped full p d h = elim (cases_lt full 1000000001) [
  | inl low ↦ let e : min full 1000000001 ≡ full = omega arith in rw e refl
  | inr high ↦ let e : min full 1000000001 ≡ 1000000001 = omega arith in
      rw e (omega (arith, mul_le_grows 1000000001 1000000001 p h (omega arith), mul_le_grows 1000000001 full p h high))
]

-- a 0 behind a number is one more zero
pub holds_more : (head zeros n : ℕ) → Holds head zeros n → Holds head (zeros + 1) (10 * n + 0)
holds_more head zeros n h = record {
  full = h.full;
  is = rw (ten_more zeros, h.is) (omega arith);
  head_is = h.head_is;
  last = h.last;
}

-- nothing is kept of 0 alone
pub holds_none : (head zeros n : ℕ) → Holds head zeros n → head ≡ 0 → n ≡ 0
holds_none head zeros n h e =
    let f : h.full ≡ 0 = omega (arith, h.head_is) in
    h.is ∙ rw f (zero_mul (10 ^ zeros))

-- a digit that is not 0 ends the zeros
pub holds_push : (head zeros n d : ℕ) → Holds head zeros n → 0 < d → d ≤ 9 → Holds (min (head * 10 ^ (zeros + 1) + d) 1000000001) 0 (10 * n + d)
holds_push head zeros n d h some low =
    let grown : h.full * 10 ^ (zeros + 1) ≡ n * 10 = ap (λ z. h.full * z) (ten_more zeros) ∙ regroup h.full (10 ^ zeros) ∙ ap (λ z. z * 10) (sym h.is) in
    record {
      full = h.full * 10 ^ (zeros + 1) + d;
      is = rw grown (omega arith);
      head_is = rw h.head_is (capped h.full (10 ^ (zeros + 1)) d (ten_pos (zeros + 1)));
      last = λ e. absurd (omega (arith, mod-mul-add n 10 d (omega arith), sym (ap (λ z. (z + d) % 10) grown) ∙ e));
    } where
      regroup : (f z : ℕ) → f * (z * 10) ≡ f * z * 10
      regroup f z = omega arith

-- nor below its second
pub mul_ge : (a b : ℕ) → 0 < a → b ≤ a * b
mul_ge zero b i = absurd (omega arith)
mul_ge (suc a) b i = let e : suc a ≡ a + 1 = omega arith in rw e (omega arith)

-- a number with ten zeros is above the cap
pub large_plus : (n k d : ℕ) → 0 < n → 9 < k → 1000000001 ≡ min (n * 10 ^ k + d) 1000000001
large_plus n k d some h =
    omega (arith, mul_ge n (10 ^ k) some, ten_le 10 k (omega arith))
