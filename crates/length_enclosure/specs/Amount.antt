-- Amounts: the one spelling of a number of millionths.
use Rattle.std.specs.Prelude.{ℕ, suc, ℤ, pos, negsuc, ◌+◌, ◌-◌, ◌*◌, ◌/◌, ◌%◌, ◌^◌, Bool, ◌&&◌, List, [], ◌∷◌, ◌++◌, length, take, drop, slice_index, codes, decimal, ◌==◌}
use Rattle.std.specs.List.{list_all}
use Rattle.length_enclosure.specs.Number.{is_digit, is_number, number, is_signed, signed_in}

-- the last six digits of a number
abbrev pub six_digits : ℕ → List ℕ
six_digits n =
    (48 + n / 100000 % 10) ∷ (48 + n / 10000 % 10) ∷ (48 + n / 1000 % 10)
    ∷ (48 + n / 100 % 10) ∷ (48 + n / 10 % 10) ∷ (48 + n % 10) ∷ []

-- the whole millions, a dot, and the rest as six digits
unfoldable pub amount_size : ℕ → List ℕ
amount_size n = decimal (n / 10 ^ 6) ++ codes "." ++ six_digits (n % 10 ^ 6)

-- the same behind a sign where the number is negative
abbrev pub amount : ℤ → List ℕ
amount (pos n) = amount_size n
amount (negsuc n) = codes "-" ++ amount_size (suc n)

-- what stands before the last seven bytes of a text, and these
abbrev pub whole_part : List ℕ → List ℕ
whole_part text = take (length text - 7) text

abbrev pub last_seven : List ℕ → List ℕ
last_seven text = drop (length text - 7) text

-- a number, a dot, and six digits
unfoldable pub is_amount_size : List ℕ → Bool
is_amount_size text =
    is_number (whole_part text)
    && (slice_index (last_seven text) 0 == 46 && list_all is_digit (drop 1 (last_seven text)))

-- the number of millionths that such a text spells
unfoldable pub size_in : List ℕ → ℕ
size_in text = number (whole_part text) * 10 ^ 6 + number (drop 1 (last_seven text))

-- such a text, or one behind a minus that does not spell 0
abbrev pub is_amount : List ℕ → Bool
is_amount text = is_signed is_amount_size size_in text

-- the number of millionths that an amount spells
abbrev pub amount_in : List ℕ → ℤ
amount_in text = signed_in size_in text
