-- What a field says that is to be a number or an amount within a range.
use Rattle.std.specs.Prelude.{ℕ, ℤ, pos, neg_ℤ, Bool, not, ◌&&◌, List, Ok, Err, unsigned_abs, nat_lt, nat_le, int_le, if◌then◌else◌}
use Rattle.mwt_base.specs.Limits.{most_coordinate}
use Rattle.length_enclosure.specs.declared.units.Units.{Units}
use Rattle.length_enclosure.specs.declared.units.Units.TheVariants as units
use Rattle.length_enclosure.specs.Number.{is_number, number, is_signed, signed_in}
use Rattle.length_enclosure.specs.Units.{units_in}
use Rattle.cert_text.specs.declared.found.Flaw.TheVariants.{NotSpelled, Outside}
use Rattle.cert_text.specs.Found.{Found}

-- a value, or none where it is out of its range
abbrev pub kept_if : {A : Type 0} → Bool → A → Found A
kept_if fits x = if fits then Ok x else Err Outside

-- a number from low to below end
unfoldable pub number_in : ℕ → ℕ → List ℕ → Found ℕ
number_in low end text =
    if not (is_number text) then Err NotSpelled
    else kept_if (nat_le low (number text) && nat_lt (number text) end) (number text)

-- a coordinate: a signed number of at most 10^9 in size
unfoldable pub coordinate_in : List ℕ → Found ℤ
coordinate_in text =
    if not (is_signed is_number number text) then Err NotSpelled
    else kept_if (nat_le (unsigned_abs (signed_in number text)) most_coordinate) (signed_in number text)

abbrev pub ranged : ℤ → ℤ → Units → Found ℤ
ranged low high units.NoAmount = Err NotSpelled
ranged low high units.Outside = Err Outside
ranged low high (units.Value n) = kept_if (int_le low n && int_le n high) n

-- an amount from low to high
unfoldable pub amount_within : ℤ → ℤ → List ℕ → Found ℤ
amount_within low high text = ranged low high (units_in text)

-- an amount of at most this size
abbrev pub amount_upto : ℕ → List ℕ → Found ℤ
amount_upto most text = amount_within (neg_ℤ (pos most)) (pos most) text
