-- Whole numbers written as digits.
use Rattle.std.proofs.Common.{◌≡◌, Bool, ℕ, ◌+◌, ◌-◌, ◌*◌, ◌^◌, ◌<◌, ◌≤◌, true, false, not, ◌&&◌, ltb, fold, List, [], ◌∷◌, length, get_or, take, refl, inl, inr, ap, ◌∙◌, arith, decimal}
use Rattle.std.specs.List.{list_all}
use Rattle.std.proofs.lemmas.Bool.{cases_lt, and_parts, and_from, and_left, not_from_false, not-true, lt-ltb, ne_eqb}
use Rattle.std.proofs.lemmas.Bool.Decides.{nat_tests}
use Rattle.std.proofs.lemmas.Str.Parse.{IsNumeralModel, numerals_by_fold}
use Rattle.std.proofs.lemmas.List.Sums.{fold_more}
use Rattle.std.proofs.lemmas.List.Folds.{list_all_more}
use Rattle.std.proofs.lemmas.Fmt.{digits_decimal, digits_value-decimal, decimal-digits_value, decimal_nonempty, first_decimal, decimal_digit}
use Rattle.length_enclosure.specs.Number.{is_digit, has_leading_zero, is_number, number, is_negative}
use Rattle.length_enclosure.proofs.Signs.{IsSpelling}

-- no digits spell 0
pub number_none : number [] ≡ 0
unfolding number
number_none = refl

-- one more digit of a text
pub number_more : (t : List ℕ) (i : ℕ) → i < length t → number (take (i + 1) t) ≡ 10 * number (take i t) + (get_or t i 0 - 48)
unfolding number
number_more t i h = fold_more (λ n b. 10 * n + (b - 48)) 0 t i 0 h

-- one more byte of a text is a digit
pub digits_more : (t : List ℕ) (i : ℕ) → i < length t → list_all is_digit (take i t) ≡ true → is_digit (get_or t i 0) ≡ true → list_all is_digit (take (i + 1) t) ≡ true
digits_more t i h a e = list_all_more is_digit t i 0 h ∙ rw (a, e) refl

pub digit_high : (b : ℕ) → is_digit b ≡ true → b ≤ 57
digit_high b h = grind (arith, nat_tests)

pub digit_low : (b : ℕ) → is_digit b ≡ true → 48 ≤ b
digit_low b h = grind (arith, nat_tests)

pub digit_between : (b : ℕ) → 48 ≤ b → b ≤ 57 → is_digit b ≡ true
digit_between b l h = grind (arith, nat_tests)

abbrev read_on : ℕ → List ℕ → ℕ
read_on n ds = fold (λ n b. 10 * n + (b - 48)) n ds

own_digits : IsNumeralModel (λ ds. list_all is_digit ds ≡ true) number
unfolding number
own_digits = numerals_by_fold (λ ds. list_all is_digit ds ≡ true)
    (record {
      empty = refl;
      parts = λ c cs h. let p = and_parts (is_digit c) (list_all is_digit cs) h in ((digit_low c p.0, digit_high c p.0), p.1);
      more = λ c cs r h. and_from (is_digit c) (list_all is_digit cs) (digit_between c r.0 r.1) h;
    })
    read_on
    (record {
      empty = λ n. refl;
      more = λ n c cs r. ap (λ k. fold (λ n b. 10 * n + (b - 48)) k cs) (omega arith);
    })

-- what a number is
pub number_parts : (t : List ℕ) → is_number t ≡ true → (0 < length t) × (list_all is_digit t ≡ true) × (has_leading_zero t ≡ false)
unfolding is_number
number_parts t h =
    let a = and_parts (ltb 0 (length t)) (list_all is_digit t && not (has_leading_zero t)) h in
    let b = and_parts (list_all is_digit t) (not (has_leading_zero t)) a.1 in
    (grind (arith, nat_tests, a.0), b.0, not-true _ b.1)

-- a text that begins with a 0 is this 0 alone
lone_zero : (t : List ℕ) → 0 < length t → has_leading_zero t ≡ false → get_or t 0 0 ≡ 48 → length t ≡ 1
lone_zero t some h e = grind (arith, nat_tests)

-- a number is the one spelling of what it spells
pub number_spelled : (t : List ℕ) → is_number t ≡ true → number t < 2 ^ 64 → decimal (number t) ≡ t
number_spelled t h low =
    let p = number_parts t h in
    decimal-digits_value own_digits t p.1 p.0 (lone_zero t p.0 p.2) low

-- what is spelled is read again
pub number_again : (n : ℕ) → n < 2 ^ 64 → number (decimal n) ≡ n
number_again n low = digits_value-decimal own_digits n low

pub digits_again : (n : ℕ) → n < 2 ^ 64 → list_all is_digit (decimal n) ≡ true
digits_again n low = digits_decimal own_digits n low

no_leading : (t : List ℕ) (n : ℕ) → 48 < get_or t 0 0 → has_leading_zero t ≡ false
no_leading t n h = and_left _ _ (ne_eqb (get_or t 0 0) 48 (λ e. omega arith))

not_leading : (n : ℕ) → n < 2 ^ 64 → has_leading_zero (decimal n) ≡ false
not_leading n low = elim (cases_lt 0 n) [
  | inl some ↦ no_leading (decimal n) n (first_decimal n some low)
  | inr none ↦ let e : n ≡ 0 = omega arith in rw (ap decimal e, decimal_digit 0 (omega arith)) refl
]

-- and it is a number
pub is_number_again : (n : ℕ) → n < 2 ^ 64 → is_number (decimal n) ≡ true
unfolding is_number
is_number_again n low =
    and_from _ _ (lt-ltb _ _ (decimal_nonempty n low)) (and_from _ _ (digits_again n low) (not_from_false _ (not_leading n low)))

-- what all pass the first passes
pub first_passes : (p : ℕ → Bool) (s : List ℕ) → 0 < length s → list_all p s ≡ true → p (get_or s 0 0) ≡ true
first_passes p [] some h = absurd (omega arith)
first_passes p (b ∷ bs) some h = (and_parts _ _ h).0

-- a digit is no minus
pub digit_first : (t : List ℕ) → is_digit (get_or t 0 0) ≡ true → is_negative t ≡ false
digit_first t h = let low = digit_low (get_or t 0 0) h in ne_eqb (get_or t 0 0) 45 (λ e. omega (arith, low))

-- numbers are spelled in one way
pub number_spelling : IsSpelling is_number number decimal (10 ^ 18)
number_spelling = record {
  spelled = λ t h low. number_spelled t h (omega arith);
  again = λ n low. is_number_again n (omega arith);
  value_again = λ n low. number_again n (omega arith);
  plain = λ t h. let p = number_parts t h in digit_first t (first_passes is_digit t p.0 p.1);
}
