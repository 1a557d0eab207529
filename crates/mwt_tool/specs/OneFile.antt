-- What two reports of one file share, whatever the workers, the gate and the schedule.
use Rattle.std.specs.Prelude.{◌≡◌, ℕ, List}
use Rattle.mwt_base.specs.declared.status.Status.TheVariants.{Done}
use Rattle.cert_text.specs.declared.report.Method.TheVariants.{Faces}
use Rattle.cert_text.specs.declared.report.Report.{Report}
use Rattle.cert_text.specs.Texts.{report_text}
use Rattle.dual_checker.specs.GoodReport.{live_edges_of}
use Rattle.tsplib_points.specs.declared.file.File.{File}
use Rattle.mwt_tool.specs.declared.solver.Settings.{Settings}
use Rattle.mwt_tool.specs.ReportOf.{IsReportOf}
use Rattle.mwt_tool.specs.Solves.{Solves}

-- the same points, hull, number of candidate edges, live edges, skeleton and method
pub record ShareEdges (r q : Report) : Type 0 where
  pub points : r.points ≡ q.points
  pub hull : r.hull ≡ q.hull
  pub candidates : r.candidates ≡ q.candidates
  pub live : live_edges_of r ≡ live_edges_of q
  pub skeleton : r.skeleton ≡ q.skeleton
  pub method : r.method ≡ q.method

-- the same triangulation, and the same enclosure of its length
pub record ShareTriangulation (r q : Report) : Type 0 where
  pub tris : r.tris ≡ q.tris
  pub lo : r.lo ≡ q.lo
  pub hi : r.hi ≡ q.hi

-- Two reports with the same value of the diamond test share all but their prices, bound and gap. With the same number of sweeps
-- they are one report, and with the method faces they are one whatever the sweeps.
pub record AreAlike (s t : Settings) (r q : Report) : Type 0 where
  pub edges : ShareEdges r q
  pub triangulation : ShareTriangulation r q
  pub same : s.sweeps ≡ t.sweeps → r ≡ q
  pub same_faces : r.method ≡ Faces → r ≡ q

-- Reports of one file with the same value of the diamond test are alike.
abbrev pub OneFileAlike : Type 0
OneFileAlike =
    (file : File) (s t : Settings) (r q : Report) → s.diamond ≡ t.diamond → IsReportOf file s r → IsReportOf file t q → AreAlike s t r q

-- the texts of two reports that are alike
pub record AreTextsAlike (s t : Settings) (first second : List ℕ) : Type 0 where
  pub r : Report
  pub q : Report
  pub first_is : first ≡ report_text r
  pub second_is : second ≡ report_text q
  pub alike : AreAlike s t r q

-- So are the texts that `solve` means to write for one input.
abbrev pub OneInputAlike : Type 0
OneInputAlike =
    (input first second : List ℕ) (s t : Settings) → s.diamond ≡ t.diamond → Solves s input Done first → Solves t input Done second
    → AreTextsAlike s t first second

-- With the same number of sweeps they are the same bytes.
abbrev pub OneText : Type 0
OneText =
    (input first second : List ℕ) (s t : Settings) → s.diamond ≡ t.diamond → s.sweeps ≡ t.sweeps → Solves s input Done first
    → Solves t input Done second → first ≡ second
