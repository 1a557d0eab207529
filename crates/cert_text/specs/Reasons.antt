-- Why a text is no report: the rule that it breaks, with its code, and the line that breaks it.
use Rattle.std.specs.Prelude.{ℕ}
use Rattle.cert_text.specs.declared.refusal.Refusal2.{Refusal2}
use Rattle.cert_text.specs.declared.refusal.Reason.{Reason}
use Rattle.cert_text.specs.declared.refusal.Reason.TheVariants.{Version, Line, Order, Range, Truncated, AfterEnd}

-- the codes of the reasons
abbrev pub code_of : Reason → ℕ
code_of Version = 30
code_of Line = 31
code_of Order = 32
code_of Range = 33
code_of Truncated = 34
code_of AfterEnd = 35

-- the refusal for this reason at this line
abbrev pub refused : ℕ → Reason → Refusal2
refused line why = record { code = code_of why; line = line }
