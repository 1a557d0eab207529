-- What is read of a text that may be an amount.
use Rattle.std.specs.Prelude.{List, ℕ, unsigned_abs, nat_le, not, if◌then◌else◌}
use Rattle.mwt_base.specs.Limits.{most_amount}
use Rattle.length_enclosure.specs.declared.units.Units.{Units}
use Rattle.length_enclosure.specs.declared.units.Units.TheVariants.{Value, Outside, NoAmount}
use Rattle.length_enclosure.specs.Amount.{is_amount, amount_in}

-- the number of an amount of at most 10^25 millionths in size
unfoldable pub units_in : List ℕ → Units
units_in text =
    if not (is_amount text) then NoAmount
    else if nat_le (unsigned_abs (amount_in text)) most_amount then Value (amount_in text)
    else Outside
