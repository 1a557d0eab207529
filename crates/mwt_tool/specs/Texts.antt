-- What is to be written, as bytes.
use Rattle.std.specs.Prelude.{List, ℕ, string_bytes}
use Rattle.mwt_tool.specs.declared.answer.Text.{Text}
use Rattle.mwt_tool.specs.declared.answer.Text.TheVariants.{Whole, Line, Lines}

abbrev pub bytes_of : Text → List ℕ
bytes_of (Whole text) = text
bytes_of (Line line) = string_bytes line
bytes_of (Lines lines) = lines.items
