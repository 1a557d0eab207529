-- Reals, as exact decimals.
use Rattle.std.specs.Prelude.{ℕ, ◌+◌, ◌*◌, ◌/◌, ◌%◌, ◌^◌, Bool, false, not, ◌&&◌, ◌||◌, List, [], ◌∷◌, ◌++◌, length, Option, Some, None, ◌==◌, if◌then◌else◌, ℤ, pos, neg_ℤ}
use Rattle.std.specs.List.{list_any, before_first, after_first}
use Rattle.length_enclosure.specs.Number.{number}
use Rattle.tsplib_points.specs.Numbers.{is_digits}

abbrev pub is_point : ℕ → Bool
is_point b = b == 46

-- e or E
abbrev pub is_power : ℕ → Bool
is_power b = b == 101 || b == 69

abbrev pub is_sign : ℕ → Bool
is_sign b = b == 43 || b == 45

-- whether a text begins with a minus
abbrev pub is_negative : List ℕ → Bool
is_negative [] = false
is_negative (b ∷ bs) = b == 45

-- a text without a sign at its front
abbrev pub unsigned : List ℕ → List ℕ
unsigned [] = []
unsigned (b ∷ bs) = if is_sign b then bs else b ∷ bs

-- what stands after the sign up to the exponent
abbrev pub mantissa : List ℕ → List ℕ
mantissa text = before_first is_power (unsigned text)

-- the exponent, after its letter
abbrev pub exponent : List ℕ → List ℕ
exponent text = after_first is_power (unsigned text)

-- what stands before the point, and what stands after it
abbrev pub whole_part : List ℕ → List ℕ
whole_part text = before_first is_point text

abbrev pub fraction : List ℕ → List ℕ
fraction text = after_first is_point text

-- digits with at most one point among, before or after them, and at least one digit
unfoldable pub is_decimal : List ℕ → Bool
is_decimal text = is_digits (whole_part text ++ fraction text)

-- nothing, or where the letter is there: a sign or none, and one or more digits
unfoldable pub is_exponent : Bool → List ℕ → Bool
is_exponent there text = not there || is_digits (unsigned text)

-- a sign or none, then a decimal, then nothing or an exponent
unfoldable pub is_real : List ℕ → Bool
is_real text = is_decimal (mantissa text) && is_exponent (list_any is_power (unsigned text)) (exponent text)

-- A decimal: whether a minus stands before it, the number of all its digits, how many of these stand after the point, and
-- how far the exponent moves the point to the right and to the left, one of which is 0. Its size is
-- digits * 10^right / 10^(places + left).
pub record Real : Type 0 where
  pub negative : Bool
  pub digits : ℕ
  pub places : ℕ
  pub right : ℕ
  pub left : ℕ

-- the decimal that a text says
unfoldable pub real_in : List ℕ → Real
real_in text = record {
  negative = is_negative text;
  digits = number (whole_part (mantissa text) ++ fraction (mantissa text));
  places = length (fraction (mantissa text));
  right = if is_negative (exponent text) then 0 else number (unsigned (exponent text));
  left = if is_negative (exponent text) then number (unsigned (exponent text)) else 0;
}

abbrev pub real_of : List ℕ → Option Real
real_of text = if is_real text then Some (real_in text) else None

-- whether a decimal times 10^k is whole
unfoldable pub is_whole : ℕ → Real → Bool
is_whole k r = (r.digits * 10 ^ (r.right + k)) % 10 ^ (r.places + r.left) == 0

-- the size of a decimal times 10^k, where that is whole
unfoldable pub size_times : ℕ → Real → ℕ
size_times k r = (r.digits * 10 ^ (r.right + k)) / 10 ^ (r.places + r.left)

abbrev pub signed : Bool → ℕ → ℤ
signed negative n = if negative then neg_ℤ (pos n) else pos n

-- a decimal times 10^k, where that is whole
unfoldable pub times : ℕ → Real → ℤ
times k r = signed r.negative (size_times k r)
