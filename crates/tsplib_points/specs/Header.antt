-- The lines of a header.
use Rattle.std.specs.Prelude.{ℕ, Bool, ◌&&◌, ◌||◌, List, Option, Some, None, is_some, option_and_then, find, bytes_eq, codes, ◌==◌, if◌then◌else◌}
use Rattle.std.specs.List.{list_any, before_first, after_first}
use Rattle.tsplib_points.specs.declared.reason.Reason.{Reason}
use Rattle.tsplib_points.specs.declared.reason.Reason.TheVariants.{Header, FileType, WeightType, CoordType, Dimension}
use Rattle.tsplib_points.specs.Lines.{Line, is_blank, is_empty, trim}
use Rattle.tsplib_points.specs.Numbers.{small_number}
use Rattle.tsplib_points.specs.Reasons.{unless}

abbrev pub is_colon : ℕ → Bool
is_colon b = b == 58

-- A line of the header, cut at its first colon: the keyword before it and the value after it, both without the blanks at
-- their ends, and whether there is a colon. Where there is none all of the line is the keyword.
pub record Parts : Type 0 where
  pub keyword : List ℕ
  pub value : List ℕ
  pub has_colon : Bool

unfoldable pub parts_of : List ℕ → Parts
parts_of text = record {
  keyword = trim (before_first is_colon text);
  value = trim (after_first is_colon text);
  has_colon = list_any is_colon text;
}

-- the line is this word, or this word with one colon after it
abbrev pub is_mark : List ℕ → Parts → Bool
is_mark word p = bytes_eq p.keyword word && is_empty p.value

-- the line is an entry with this keyword: the keyword, a colon, a value
abbrev pub is_entry : List ℕ → Parts → Bool
is_entry word p = p.has_colon && bytes_eq p.keyword word

unfoldable pub is_end_mark : Parts → Bool
is_end_mark p = is_mark (codes "EOF") p

unfoldable pub is_section_mark : Parts → Bool
is_section_mark p = is_mark (codes "NODE_COORD_SECTION") p

unfoldable pub is_dimension_entry : Parts → Bool
is_dimension_entry p = is_entry (codes "DIMENSION") p

-- the entries that are passed over, any number of times
unfoldable pub is_passed_over : Parts → Bool
is_passed_over p =
    is_entry (codes "NAME") p || is_entry (codes "COMMENT") p || is_entry (codes "CAPACITY") p
    || is_entry (codes "DISPLAY_DATA_TYPE") p || is_entry (codes "EDGE_WEIGHT_FORMAT") p
    || is_entry (codes "EDGE_DATA_FORMAT") p

-- a text's first word, up to a blank or the end
abbrev pub first_word : List ℕ → List ℕ
first_word text = before_first is_blank text

abbrev pub is_file_type : List ℕ → Bool
is_file_type value = bytes_eq (first_word value) (codes "TSP")

abbrev pub is_weight_type : List ℕ → Bool
is_weight_type value =
    bytes_eq value (codes "EUC_2D") || bytes_eq value (codes "CEIL_2D") || bytes_eq value (codes "ATT")

abbrev pub is_coord_type : List ℕ → Bool
is_coord_type value = bytes_eq value (codes "TWOD_COORDS")

-- Why an entry fails that is no DIMENSION. Only TYPE, EDGE_WEIGHT_TYPE and NODE_COORD_TYPE have a rule for their values.
unfoldable pub entry_reason : Parts → Option Reason
entry_reason p =
    if is_passed_over p then None
    else if is_entry (codes "TYPE") p then unless (is_file_type p.value) FileType
    else if is_entry (codes "EDGE_WEIGHT_TYPE") p then unless (is_weight_type p.value) WeightType
    else if is_entry (codes "NODE_COORD_TYPE") p then unless (is_coord_type p.value) CoordType
    else Some Header

-- Why a line of the header fails, where it is known whether a DIMENSION came before. The coordinates come after
-- DIMENSION, which comes once.
unfoldable pub header_reason : Bool → Parts → Option Reason
header_reason has_dimension p =
    if is_end_mark p then None
    else if is_section_mark p then unless has_dimension Dimension
    else if is_dimension_entry p then
    (if has_dimension then Some Header else unless (is_some (small_number p.value)) Dimension)
    else entry_reason p

unfoldable pub is_end : Line → Bool
is_end l = is_end_mark (parts_of l.text)

unfoldable pub is_section : Line → Bool
is_section l = is_section_mark (parts_of l.text)

unfoldable pub is_dimension : Line → Bool
is_dimension l = is_dimension_entry (parts_of l.text)

-- the lines up to EOF, or all of them
unfoldable pub lines_to_end : List Line → List Line
lines_to_end ls = before_first is_end ls

-- the lines of the header: those up to NODE_COORD_SECTION
unfoldable pub header_lines : List Line → List Line
header_lines ls = before_first is_section (lines_to_end ls)

-- the lines of the section: those after NODE_COORD_SECTION
unfoldable pub section_lines : List Line → List Line
section_lines ls = after_first is_section (lines_to_end ls)

-- the number that a DIMENSION tells
abbrev pub dimension_in : Line → Option ℕ
dimension_in l = small_number (parts_of l.text).value

-- the number that the first DIMENSION of the header tells
unfoldable pub dimension : List Line → Option ℕ
dimension ls = option_and_then dimension_in (find is_dimension (header_lines ls))
