-- What the mode `check` means to write.
use Rattle.std.specs.Prelude.{◌≡◌, ◌++◌, List, ℕ, Ok, Err, codes, decimal, ◌==◌, if◌then◌else◌}
use Rattle.mwt_base.specs.Line.{line}
use Rattle.mwt_base.specs.declared.status.Status.{Status}
use Rattle.mwt_base.specs.declared.status.Status.TheVariants.{Broken, Done}
use Rattle.cert_text.specs.declared.refusal.Refusal2.{Refusal2}
use Rattle.cert_text.specs.declared.report.Report.{Report}
use Rattle.cert_text.specs.Texts.{report_text}
use Rattle.cert_text.specs.Whole.{report_of}
use Rattle.dual_checker.specs.Elimination.{HasTooManyEdges, HasTooManyTriangles, IsWithinLimits}
use Rattle.dual_checker.specs.GoodReport.{HasPoints, IsGoodReport, parts}
use Rattle.dual_checker.specs.Parts.{FailsFirst}
use Rattle.mwt_tool.specs.declared.refusal.Refusal.TheVariants.{Report as OfReport, DenseEdges, DenseTriangles}
use Rattle.mwt_tool.specs.Refusal.{Refuses}
use Rattle.mwt_tool.specs.ReportOf.{IsCertified}

-- the name of a part of a report, by its number
unfoldable pub part_name : ℕ → List ℕ
part_name k =
    if k == 1 then codes "points"
    else if k == 2 then codes "hull"
    else if k == 3 then codes "candidates"
    else if k == 4 then codes "live"
    else if k == 5 then codes "skeleton"
    else if k == 6 then codes "triangulation"
    else if k == 7 then codes "length"
    else if k == 8 then codes "prices"
    else if k == 9 then codes "slack"
    else if k == 10 then codes "bound"
    else if k == 11 then codes "gap"
    else codes "faces"

-- the line of a report whose part k is the first that fails
abbrev pub broken_line : ℕ → List ℕ
broken_line k = line (codes "broken " ++ decimal k ++ codes " " ++ part_name k)

-- For a report: that its points have too many candidate edges or empty triangles, which is judged after the first part; the
-- first part that fails; or that it is good, and so certifies.
pub data Decides (r : Report) (status : Status) (text : List ℕ) : Type 0 where
  dense_edges : HasPoints r → HasTooManyEdges r.points r.diamond → Refuses DenseEdges status text → Decides r status text
  dense_triangles : HasPoints r → HasTooManyTriangles r.points r.diamond → Refuses DenseTriangles status text → Decides r status text
  broken : (k : ℕ) → (HasPoints r → IsWithinLimits r.points r.diamond) → FailsFirst 1 (parts r) k
      → status ≡ Broken → text ≡ broken_line k → Decides r status text
  valid : IsWithinLimits r.points r.diamond → IsCertified r → status ≡ Done → text ≡ line (codes "valid") → Decides r status text

-- For an input: why it is no text of a report, or what there is to say of the report.
pub data Checks (input : List ℕ) (status : Status) (text : List ℕ) : Type 0 where
  refused : (why : Refusal2) → report_of input ≡ Err why → Refuses (OfReport why) status text → Checks input status text
  read : (r : Report) → report_of input ≡ Ok r → input ≡ report_text r → Decides r status text → Checks input status text

-- the text of a good report whose points are within the limits
pub record IsValidText (input : List ℕ) : Type 0 where
  pub report : Report
  pub text : input ≡ report_text report
  pub good : IsGoodReport report
  pub within : IsWithinLimits report.points report.diamond
