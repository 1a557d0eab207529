use Rattle.std.proofs.Common.{◌≡◌, ◌*◌, ◌^◌, ℤ, pos, neg_ℤ, ◌+ℤ◌, ◌-ℤ◌, ◌≤ℤ◌, of_z, to_z, w64, refl, arith}
use Rattle.std.proofs.lemmas.Int.{clamps, ints}
use Rattle.std.specs.Int.{int_max}
use Rattle.price_ascent.specs.Ascent.{lowest}
use Rattle.price_ascent.proofs.Equal.{same_entry}
use Rattle.price_ascent.proofs.sweep.lowered.Goals as goal

-- a fall, counted in 64 bits
fallen : (p q : ℤ) → lowest ≤ℤ p → p ≤ℤ pos (4 * 10 ^ 17) → lowest ≤ℤ q → q ≤ℤ pos (4 * 10 ^ 17) → to_z w64 (of_z w64 (to_z w64 (of_z w64 p) -ℤ to_z w64 (of_z w64 q))) ≡ p -ℤ q
fallen p q p_low p_high q_low q_high = omega (arith, ints, p_low, p_high, q_low, q_high)

-- added to a share and taken from one
added : (s p q r : ℤ) → q ≡ r → neg_ℤ (pos (281 * 10 ^ 16)) ≤ℤ s → s ≤ℤ pos (281 * 10 ^ 16) → lowest ≤ℤ p → p ≤ℤ pos (4 * 10 ^ 17) → lowest ≤ℤ q → q ≤ℤ pos (4 * 10 ^ 17)
    → to_z w64 (of_z w64 (to_z w64 (of_z w64 s) +ℤ to_z w64 (of_z w64 (to_z w64 (of_z w64 p) -ℤ to_z w64 (of_z w64 q))))) ≡ s +ℤ (p -ℤ r)
added s p q r same s_low s_high p_low p_high q_low q_high =
    let d = fallen p q p_low p_high q_low q_high in
    omega (arith, ints, d, same, s_low, s_high, p_low, p_high, q_low, q_high)

taken : (s p q r : ℤ) → q ≡ r → neg_ℤ (pos (281 * 10 ^ 16)) ≤ℤ s → s ≤ℤ pos (281 * 10 ^ 16) → lowest ≤ℤ p → p ≤ℤ pos (4 * 10 ^ 17) → lowest ≤ℤ q → q ≤ℤ pos (4 * 10 ^ 17)
    → to_z w64 (of_z w64 (to_z w64 (of_z w64 s) -ℤ to_z w64 (of_z w64 (to_z w64 (of_z w64 p) -ℤ to_z w64 (of_z w64 q))))) ≡ s -ℤ (p -ℤ r)
taken s p q r same s_low s_high p_low p_high q_low q_high =
    let d = fallen p q p_low p_high q_low q_high in
    omega (arith, ints, d, same, s_low, s_high, p_low, p_high, q_low, q_high)

pub overflow_sub-fall : goal.overflow_sub-fall
overflow_sub-fall c = let v = c.max-value.ensures.value in omega (arith, ints, clamps, v)

pub overflow_add-result : goal.overflow_add-result
overflow_add-result c = let v = c.max-value.ensures.value in omega (arith, ints, clamps, v)

pub overflow_sub-result : goal.overflow_sub-result
overflow_sub-result c = let v = c.max-value.ensures.value in omega (arith, ints, clamps, v)

pub returns : goal.returns
returns c =
    let kept = c.args.kept in
    let v = c.max-value.ensures.value in
    let value : c.max-value.result ≡ int_max (kept.value -ℤ c.args.m) lowest = omega (arith, ints, clamps, v) in
    let low = c.requires.price.0 in
    let high = c.requires.price.1 in
    let up_low = c.requires.shares.up.0 in
    let up_high = c.requires.shares.up.1 in
    let down_low = c.requires.shares.down.0 in
    let down_high = c.requires.shares.down.1 in
    same_entry _ _ (omega (arith, ints, value)) (omega (arith, ints)) (omega (arith, ints))
    (added kept.up kept.value c.max-value.result _ value up_low (omega (arith, ints, up_high)) low high (omega (arith, ints, clamps, value)) (omega (arith, ints, clamps, value, high)))
    (taken kept.down kept.value c.max-value.result _ value down_low (omega (arith, ints, down_high)) low high (omega (arith, ints, clamps, value)) (omega (arith, ints, clamps, value, high)))
    refl refl
