-- What there is to say of a point file: in the mode `solve` the text of its report, in `trial` the summary of it, and in
-- `explain` the text of its killed edges.
use Rattle.std.specs.Prelude.{◌≡◌, List, ℕ, None, Some}
use Rattle.mwt_base.specs.declared.status.Status.{Status}
use Rattle.mwt_base.specs.declared.status.Status.TheVariants.{Done}
use Rattle.cert_text.specs.declared.report.Report.{Report}
use Rattle.cert_text.specs.Texts.{report_text}
use Rattle.dual_checker.specs.Elimination.{HasTooManyEdges, HasTooManyTriangles, IsWithinLimits}
use Rattle.tsplib_points.specs.declared.file.File.{File}
use Rattle.tsplib_points.specs.declared.file.Refusal.{Refusal as FileRefusal}
use Rattle.tsplib_points.specs.Files.{IsFileOf}
use Rattle.tsplib_points.specs.Refusals.{refusal}
use Rattle.mwt_tool.specs.declared.refusal.Refusal.TheVariants.{File as OfFile, DenseEdges, DenseTriangles}
use Rattle.mwt_tool.specs.declared.solver.Settings.{Settings}
use Rattle.mwt_tool.specs.declared.solving.Form.{Form}
use Rattle.mwt_tool.specs.declared.solving.Form.TheVariants.{Whole, Summary, Kills}
use Rattle.mwt_tool.specs.Explained.{IsExplained}
use Rattle.mwt_tool.specs.Refusal.{Refuses}
use Rattle.mwt_tool.specs.ReportOf.{IsReportOf}
use Rattle.mwt_tool.specs.Summary.{summary_text}

-- the text says in this form what there is to say of a file
abbrev pub Tells : Form → File → Settings → List ℕ → Type 0
Tells Whole file settings text = (report : Report) × IsReportOf file settings report × (text ≡ report_text report)
Tells Summary file settings text = (report : Report) × IsReportOf file settings report × (text ≡ summary_text report)
Tells Kills file settings text = IsExplained file.points.points settings.diamond text

-- For what a file holds: that its points have too many candidate edges or empty triangles, or what there is to say of it.
pub data AnswersFile (form : Form) (file : File) (settings : Settings) (status : Status) (text : List ℕ) : Type 0 where
  dense_edges : HasTooManyEdges file.points.points settings.diamond → Refuses DenseEdges status text → AnswersFile form file settings status text
  dense_triangles : HasTooManyTriangles file.points.points settings.diamond → Refuses DenseTriangles status text
      → AnswersFile form file settings status text
  tells : IsWithinLimits file.points.points settings.diamond → status ≡ Done → Tells form file settings text
      → AnswersFile form file settings status text

-- For an input: why it is no accepted file, or what there is to say of what it holds.
pub data AnswersInput (form : Form) (settings : Settings) (input : List ℕ) (status : Status) (text : List ℕ) : Type 0 where
  refused : (why : FileRefusal) → refusal input ≡ Some why → Refuses (OfFile why) status text → AnswersInput form settings input status text
  accepted : (file : File) → IsFileOf input file → AnswersFile form file settings status text → AnswersInput form settings input status text

-- with the text of the report
abbrev pub Solves : Settings → List ℕ → Status → List ℕ → Type 0
Solves settings input status text = AnswersInput Whole settings input status text

-- with the summary of the report
abbrev pub Summarizes : Settings → List ℕ → Status → List ℕ → Type 0
Summarizes settings input status text = AnswersInput Summary settings input status text

-- with the text of the killed edges
abbrev pub Explains : Settings → List ℕ → Status → List ℕ → Type 0
Explains settings input status text = AnswersInput Kills settings input status text

-- an accepted file whose points are within the limits
pub record IsSolvable (settings : Settings) (input : List ℕ) : Type 0 where
  pub accepted : refusal input ≡ None
  pub points : (file : File) → IsFileOf input file → IsWithinLimits file.points.points settings.diamond
