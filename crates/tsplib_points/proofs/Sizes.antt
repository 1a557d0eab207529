-- The size of a decimal in a unit that is not its own.
use Rattle.std.proofs.Common.{◌≡◌, ℕ, ◌+◌, ◌-◌, ◌*◌, ◌/◌, ◌^◌, ◌<◌, ◌≤◌, min, Bool, true, false, cond, ltb, Some, None, inl, inr, refl, sym, ap, ◌∙◌, arith, rules, ℤ, pos, ◌-ℤ◌, neg_ℤ, to_z, of_z, w64, FitsSigned}
use Rattle.std.proofs.lemmas.Bool.{cases_lt, eqb-true, lt-ltb, le-ltb}
use Rattle.std.proofs.lemmas.Int.{ints, to_z-of_z, to_z_pos}
use Rattle.std.proofs.lemmas.Nat.{pow-add}
use Rattle.std.proofs.lemmas.Nat.Gcd.{dvd_of_mod-eq-zero}
use Rattle.std.proofs.Math.Nat.{mul-div_cancel, div-mul_cancel, le-mul_of_pos_right}
use Rattle.tsplib_points.specs.Real.{Real, is_whole, size_times, times, signed}
use Rattle.tsplib_points.specs.Kept.{Keeps}
use Rattle.tsplib_points.proofs.Tens.{ten_pos}

-- ten times the power, ten times the size
pub size_times-more : (r : Real) (k j : ℕ) → is_whole k r ≡ true → size_times (k + j) r ≡ size_times k r * 10 ^ j
unfolding is_whole size_times
size_times-more r k j whole =
    let m = 10 ^ (r.places + r.left) in
    let n = r.digits * 10 ^ (r.right + k) in
    let back : n / m * m ≡ n = div-mul_cancel m (dvd_of_mod-eq-zero m (eqb-true _ _ whole)) in
    let power : 10 ^ (r.right + (k + j)) ≡ 10 ^ (r.right + k) * 10 ^ j = ap (λ z. 10 ^ z) (omega arith) ∙ pow-add 10 (r.right + k) j in
    let grown : r.digits * 10 ^ (r.right + (k + j)) ≡ n / m * 10 ^ j * m =
    ap (λ z. r.digits * z) power ∙ regroup r.digits (10 ^ (r.right + k)) (10 ^ j) ∙ ap (λ z. z * 10 ^ j) (sym back) ∙ swap (n / m) m (10 ^ j) in
    ap (λ z. z / m) grown ∙ mul-div_cancel (n / m * 10 ^ j) (ten_pos (r.places + r.left)) where
      regroup : (d p q : ℕ) → d * (p * q) ≡ d * p * q
      regroup d p q = omega arith

      swap : (q m t : ℕ) → q * m * t ≡ q * t * m
      swap q m t = omega arith

-- A size that is kept to 10^9 + 1 tells of its product whether that is above 10^9, and the product where it is not.
pub record TellsSize (kept full : ℕ) : Type 0 where
  pub same : kept ≤ 1000000000 → kept ≡ full
  pub large : 1000000000 < kept → 1000000000 < full

tells : (full p : ℕ) → 0 < p → TellsSize (min full 1000000001 * p) (full * p)
tells full p some = elim (cases_lt full 1000000001) [
  | inl low ↦ let e : min full 1000000001 ≡ full = omega arith in
      rw e (record { same = λ h. refl; large = λ h. h })
  | inr high ↦ let e : min full 1000000001 ≡ 1000000001 = omega arith in
      let a = le-mul_of_pos_right 1000000001 some in
      let b = le-mul_of_pos_right full some in
      rw e (record { same = λ h. absurd (omega arith); large = λ h. omega arith })
]

-- What is kept of a decimal tells of its size in a unit that is not below its own.
pub kept_tells : (negative : Bool) (own size k : ℕ) (r : Real) → Keeps negative own size r → own ≤ k
    → TellsSize (size * 10 ^ (k - own)) (size_times k r)
kept_tells negative own size k r kept h =
    let d : own + (k - own) ≡ k = omega arith in
    let e : size_times k r ≡ size_times own r * 10 ^ (k - own) =
    ap (λ z. size_times z r) (sym d) ∙ size_times-more r own (k - own) (kept.whole own (omega arith)) in
    rw (e, kept.size_is) (tells (size_times own r) (10 ^ (k - own)) (ten_pos (k - own)))

-- a coordinate that is too large
pub large_from : (kept k : ℕ) (r : Real) → TellsSize kept (size_times k r) → 1000000000 < kept
    → None ≡ cond (ltb 1000000000 (size_times k r)) None (Some (times k r))
large_from kept k r t h = rw (lt-ltb 1000000000 (size_times k r) (t.large h)) refl

-- a coordinate that is not
pub scaled_from : (kept k : ℕ) (r : Real) (z : ℤ) → TellsSize kept (size_times k r) → kept ≤ 1000000000 → z ≡ signed r.negative kept
    → Some z ≡ cond (ltb 1000000000 (size_times k r)) None (Some (times k r))
unfolding times
scaled_from kept k r z t h e =
    let same = t.same h in
    let low : size_times k r ≤ 1000000000 = omega arith in
    rw (le-ltb 1000000000 (size_times k r) low) (ap Some (e ∙ ap (signed r.negative) same))

plain_cast : (n : ℕ) → n ≤ 1000000000 → to_z w64 n ≡ pos n
plain_cast n h = to_z_pos w64 n (omega arith)

minus : (n : ℕ) → pos 0 -ℤ pos n ≡ neg_ℤ (pos n)
minus n = omega (arith, ints)

minus_fits : (n : ℕ) → n ≤ 1000000000 → FitsSigned w64 (neg_ℤ (pos n))
minus_fits n h = search (rules, ints)

-- a size with its sign, as casts give it
pub negative_cast : (n : ℕ) → n ≤ 1000000000 → to_z w64 (of_z w64 (pos 0 -ℤ to_z w64 n)) ≡ signed true n
negative_cast n h = rw (plain_cast n h, minus n) (to_z-of_z w64 (neg_ℤ (pos n)) (minus_fits n h))

pub positive_cast : (n : ℕ) → n ≤ 1000000000 → to_z w64 n ≡ signed false n
positive_cast n h = plain_cast n h
