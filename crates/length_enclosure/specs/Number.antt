-- Whole numbers as text, and a sign before a text.
use Rattle.std.specs.Prelude.{ℕ, ℤ, pos, neg_ℤ, ◌-◌, ◌+◌, ◌*◌, Bool, not, ◌&&◌, List, length, drop, fold, slice_index, ◌==◌, nat_lt, nat_le, if◌then◌else◌}
use Rattle.std.specs.List.{list_all}

abbrev pub is_digit : ℕ → Bool
is_digit b = nat_le 48 b && nat_le b 57

-- a 0 before another digit
abbrev pub has_leading_zero : List ℕ → Bool
has_leading_zero text = slice_index text 0 == 48 && nat_lt 1 (length text)

-- 0, or a digit other than 0 followed by digits
unfoldable pub is_number : List ℕ → Bool
is_number text = nat_lt 0 (length text) && (list_all is_digit text && not (has_leading_zero text))

-- the whole number that digits spell
unfoldable pub number : List ℕ → ℕ
number digits = fold (λ n b. 10 * n + (b - 48)) 0 digits

abbrev pub is_negative : List ℕ → Bool
is_negative text = slice_index text 0 == 45

-- a text without the minus at its front
abbrev pub unsigned : List ℕ → List ℕ
unsigned text = if is_negative text then drop 1 text else text

-- a text that is so, or one behind a minus whose value is not 0
unfoldable pub is_signed : (List ℕ → Bool) → (List ℕ → ℕ) → List ℕ → Bool
is_signed is value text = is (unsigned text) && not (is_negative text && value (unsigned text) == 0)

-- its value with its sign
unfoldable pub signed_in : (List ℕ → ℕ) → List ℕ → ℤ
signed_in value text = if is_negative text then neg_ℤ (pos (value (unsigned text))) else pos (value (unsigned text))
