use Rattle.std.proofs.Common.{◌≡◌, ◌+◌, ◌%◌, ◌/◌, ◌++◌, length, unsigned_abs, List, ℕ, [], ◌∷◌, ℤ, pos, negsuc, ◌≤ℤ◌, ◌<ℤ◌, decimal, arith, refl, ◌∙◌, append_assoc}
use Rattle.std.proofs.lemmas.Int.{ints}
use Rattle.std.proofs.lemmas.List.{length-append}
use Rattle.std.proofs.lemmas.Result.{err_from_is_err_and}
use Rattle.length_enclosure.specs.Amount.{amount, amount_size, six_digits}
use Rattle.length_enclosure.proofs.amount.write_units.Goals as goal

-- an amount is its sign, its whole units, a dot and its digits
pieces : (n : ℤ) (sign : List ℕ) → (n <ℤ pos 0 → sign ≡ 45 ∷ []) → (pos 0 ≤ℤ n → sign ≡ [])
    → amount n ≡ sign ++ (decimal (unsigned_abs n / 1000000) ++ 46 ∷ six_digits (unsigned_abs n % 1000000))
unfolding amount_size
pieces (pos k) sign minus none = rw (none (omega (arith, ints))) (simp append_assoc)
pieces (negsuc k) sign minus none = rw (minus (omega (arith, ints))) (simp append_assoc)

length-pieces : (sign whole six : List ℕ) → length (sign ++ (whole ++ 46 ∷ six)) ≡ length sign + length whole + length six + 1
length-pieces sign whole six = omega (arith, length-append sign (whole ++ 46 ∷ six), length-append whole (46 ∷ six))

pub returns-in_err-reserve-clause-full : goal.returns-in_err-reserve-clause-full
returns-in_err-reserve-clause-full c =
    let p = err_from_is_err_and c.from_residual.result c.from_residual.ensures.1 in
    let size : c.unsigned_abs-size.result ≡ unsigned_abs c.args.n = omega (arith, ints) in
    let whole : c.as_bytes-whole.result.now ≡ decimal (unsigned_abs c.args.n / 1000000) = c.as_bytes-whole.ensures.value ∙ c.format.ensures.text ∙ rw size refl in
    rw (p.1, pieces c.args.n c.sign_of-sign.result.now (λ h. c.sign_of-sign.ensures.negative (omega (arith, ints))) (λ h. c.sign_of-sign.ensures.other (omega (arith, ints))), ← whole, length-pieces)
    (omega (arith, c.in_err-reserve.ensures.full))

pub returns-clause-written : goal.returns-clause-written
returns-clause-written c =
    let size : c.unsigned_abs-size.result ≡ unsigned_abs c.args.n = omega (arith, ints) in
    let six = c.in_ok-extend_from_slice-3.ensures.items in
    let dot = c.push_reserved.ensures.items in
    let whole = c.in_ok-extend_from_slice-2.ensures.items in
    let signed = c.in_ok-extend_from_slice.ensures.items in
    let text = pieces c.args.n c.sign_of-sign.result.now (λ h. c.sign_of-sign.ensures.negative (omega (arith, ints))) (λ h. c.sign_of-sign.ensures.other (omega (arith, ints))) in
    six ∙ rw (dot, whole, signed, c.reserve.ensures.items, c.as_bytes-whole.ensures.value, c.format.ensures.text, c.six_digits.ensures, size, text)
    (simp append_assoc)
