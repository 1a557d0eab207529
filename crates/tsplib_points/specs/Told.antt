-- What a line of the header tells.
use Rattle.std.specs.Prelude.{◌≡◌, true, false, Some}
use Rattle.tsplib_points.specs.declared.header.Told.{Told}
use Rattle.tsplib_points.specs.declared.header.Told.TheVariants.{End, Section, Dimension, Nothing}
use Rattle.tsplib_points.specs.Numbers.{small_number}
use Rattle.tsplib_points.specs.Header.{Parts, is_end_mark, is_section_mark, is_dimension_entry}

-- a line that meets its rule tells this
abbrev pub Tells : Told → Parts → Type 0
Tells End p = is_end_mark p ≡ true
Tells Section p = (is_end_mark p ≡ false) × (is_section_mark p ≡ true)
Tells (Dimension n) p =
    (is_end_mark p ≡ false) × (is_section_mark p ≡ false) × (is_dimension_entry p ≡ true) × (small_number p.value ≡ Some n)
Tells Nothing p = (is_end_mark p ≡ false) × (is_section_mark p ≡ false) × (is_dimension_entry p ≡ false)
