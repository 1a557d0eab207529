-- The number that a word spells.
use Rattle.std.proofs.Common.{◌≡◌, ◌≢◌, ℕ, ◌<◌, ◌≤◌, ◌^◌, ◌==◌, Bool, true, false, List, length, cond, get_or, arith, refl, sym, ◌∙◌, Some, None}
use Rattle.std.specs.Prelude.{Result, Ok, Err}
use Rattle.std.specs.Result.{result_ok}
use Rattle.std.specs.Str.{all_ascii_digits}
use Rattle.std.specs.Str.Parse.{digits_value, ParsesUnsigned}
use Rattle.std.proofs.lemmas.Str.Parse.{IsNumeralModel, numerals_by_value, parse_plain, tells_all_ascii_digits}
use Rattle.mwt_tool.specs.Words.{is_number_within, number_within}

-- a text of decimal digits, and its value
pub own : IsNumeralModel (λ ds. all_ascii_digits ds ≡ true) (digits_value 10)
own = numerals_by_value _ tells_all_ascii_digits

-- where a text is no number of 32 bits, it is none within an end that is
pub no_number : (least most : ℕ) (text : List ℕ) → most < 2 ^ 32 → ¬ ((all_ascii_digits text ≡ true) × (0 < length text) × (digits_value 10 text < 2 ^ 32)) → None ≡ number_within least most text
no_number least most text few none = of (is_number_within least most text) refl
  where
    of : (b : Bool) → is_number_within least most text ≡ b → None ≡ cond b (Some (digits_value 10 text)) None
    of false e = refl
    of true e = absurd (none (grind (arith, e)))

pub some_number : (least most n : ℕ) (text : List ℕ) → all_ascii_digits text ≡ true → 0 < length text → n ≡ digits_value 10 text → least ≤ n → n ≤ most → Some n ≡ number_within least most text
some_number least most n text digits some is low high = grind (arith, digits, some, is, low, high)

-- a text without a sign
pub plain : (text : List ℕ) → false ≡ (get_or text 0 0 == 43) → get_or text 0 0 ≢ 43
plain text off is = grind (arith, off, is)

-- what a parse at 32 bits says of the number that a text without a sign spells
module _ {E : Type 0} (least most : ℕ) (text : List ℕ) where
  pub unread : (r : Result ℕ E) → most < 2 ^ 32 → get_or text 0 0 ≢ 43 → ParsesUnsigned 32 10 text r → result_ok r ≡ None → None ≡ number_within least most text
  unread (Ok n) few no_sign parses none = cc
  unread (Err e) few no_sign parses none = no_number least most text few (parse_plain own 32 text (Err e) parses no_sign)

  pub read : (r : Result ℕ E) (n : ℕ) → get_or text 0 0 ≢ 43 → ParsesUnsigned 32 10 text r → result_ok r ≡ Some n → least ≤ n → n ≤ most → Some n ≡ number_within least most text
  read (Ok k) n no_sign parses some low high =
      let spelled = parse_plain own {E = E} 32 text (Ok k) parses no_sign in
      let same : k ≡ n = cc in
      some_number least most n text spelled.0.0 spelled.0.1 (sym same ∙ spelled.1) low high
  read (Err e) n no_sign parses some low high = cc
