-- Whole numbers that are written as digits.
use Rattle.std.specs.Prelude.{ℕ, ◌^◌, Bool, not, ◌&&◌, List, Option, Some, None, nat_lt, if◌then◌else◌}
use Rattle.std.specs.List.{list_all}
use Rattle.length_enclosure.specs.Number.{is_digit, number}
use Rattle.tsplib_points.specs.Lines.{is_empty}

-- one or more digits
abbrev pub is_digits : List ℕ → Bool
is_digits text = not (is_empty text) && list_all is_digit text

-- a number below 2^32, written as one or more digits
unfoldable pub small_number : List ℕ → Option ℕ
small_number text = if is_digits text && nat_lt (number text) (2 ^ 32) then Some (number text) else None
