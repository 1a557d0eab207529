-- Why a file is refused: the rule that it breaks, with its code, and the line that breaks it.
use Rattle.std.specs.Prelude.{ℕ, Bool, Option, Some, None, if◌then◌else◌}
use Rattle.tsplib_points.specs.declared.file.Refusal.{Refusal}
use Rattle.tsplib_points.specs.declared.reason.Reason.{Reason}
use Rattle.tsplib_points.specs.declared.reason.Reason.TheVariants.{Header, FileType, WeightType, CoordType, Dimension, NoCoords, CoordLine, NotWhole, TooLarge, RepeatedId, Count, TooMany, TooFew, Flat, AfterEnd}

-- the codes of the reasons
abbrev pub code_of : Reason → ℕ
code_of Header = 10
code_of FileType = 11
code_of WeightType = 12
code_of CoordType = 13
code_of Dimension = 14
code_of NoCoords = 15
code_of CoordLine = 16
code_of NotWhole = 17
code_of TooLarge = 18
code_of RepeatedId = 19
code_of Count = 20
code_of TooMany = 21
code_of TooFew = 22
code_of Flat = 23
code_of AfterEnd = 24

-- the refusal for this reason at this line
abbrev pub refused_at : ℕ → Reason → Refusal
refused_at line why = record { code = code_of why; line = line }

-- the refusal for this reason, which speaks of the whole file
abbrev pub refused : Reason → Refusal
refused why = refused_at 0 why

-- the reason where a rule is not kept
abbrev pub unless : Bool → Reason → Option Reason
unless kept why = if kept then None else Some why
