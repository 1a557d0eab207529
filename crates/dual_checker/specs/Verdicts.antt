-- What a report is found to be.
use Rattle.std.specs.Prelude.{ℕ, Option, None, Some}
use Rattle.cert_text.specs.declared.report.Report.{Report}
use Rattle.dual_checker.specs.declared.verdict.Verdict.{Verdict}
use Rattle.dual_checker.specs.declared.verdict.Verdict.TheVariants.{Valid, Broken}
use Rattle.dual_checker.specs.GoodReport.{IsGoodReport, parts}
use Rattle.dual_checker.specs.Parts.{FailsFirst}

-- a good report is valid, and one that is not is broken at the first part that fails
abbrev pub IsVerdict : Report → Verdict → Type 0
IsVerdict r Valid = IsGoodReport r
IsVerdict r (Broken k) = FailsFirst 1 (parts r) k

-- by the first part that fails, if any
abbrev pub verdict_of : Option ℕ → Verdict
verdict_of None = Valid
verdict_of (Some k) = Broken k
