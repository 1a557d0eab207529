-- The mode `check`: the text of a good report is valid, and so is what `solve` writes.
use Rattle.std.proofs.Common.{subst, ◌≡◌, ℕ, ◌+◌, ◌≤◌, List, length, refl, sym, codes, inl, inr}
use Rattle.std.specs.Prelude.{Ok}
use Rattle.mwt_base.specs.Limits.{most_bytes}
use Rattle.mwt_base.specs.Line.{line}
use Rattle.mwt_base.specs.declared.status.Status.{Status}
use Rattle.mwt_base.specs.declared.status.Status.TheVariants.{Done}
use Rattle.exact_predicates.specs.declared.diamond.Diamond.{Diamond}
use Rattle.exact_predicates.specs.declared.point.Point.{Point}
use Rattle.cert_text.specs.declared.report.Report.{Report}
use Rattle.cert_text.specs.Texts.{report_text}
use Rattle.cert_text.specs.Whole.{report_of}
use Rattle.cert_text.proofs.ReportSizes.{report_short}
use Rattle.cert_text.proofs.Reports.{whole_found}
use Rattle.dual_checker.specs.Elimination.{IsWithinLimits}
use Rattle.dual_checker.specs.GoodReport.{IsGoodReport, parts}
use Rattle.dual_checker.specs.Parts.{Parts, AllHold, FailsFirst, done, part}
use Rattle.tsplib_points.specs.declared.file.File.{File}
use Rattle.mwt_tool.specs.declared.solver.Settings.{Settings}
use Rattle.mwt_tool.specs.Checks.{Checks, Decides, IsValidText, refused, read, dense_edges, dense_triangles, broken, valid}
use Rattle.mwt_tool.specs.ReportOf.{IsReportOf}
use Rattle.mwt_tool.specs.declared.solving.Form.TheVariants.{Whole}
use Rattle.mwt_tool.specs.Solves.{AnswersFile, Solves, tells, accepted, refused as file_refused, dense_edges as has_dense_edges, dense_triangles as has_dense_triangles}

-- where all parts hold, none is the first that fails
not_first : (ps : Parts) (first k : ℕ) → AllHold ps → ¬ FailsFirst first ps k
not_first done first k all fails = absurd fails
not_first (part p ps) first k (holds, all) (inl (is, fails)) = absurd (fails holds)
not_first (part p ps) first k (holds, all) (inr (also, fails)) = not_first ps (first + 1) k all fails

all_hold : (r : Report) → IsGoodReport r → AllHold (parts r)
all_hold r g = (g.points, (g.hull, (g.candidates, (g.live, (g.skeleton, (g.triangulation, (g.length, (g.marks, (g.slack, (g.bound, (g.gap, (g.faces, tt))))))))))))

-- a good report within the limits is answered with Done and `valid`
Decides-valid : (r : Report) (status : Status) (text : List ℕ) → IsGoodReport r → IsWithinLimits r.points r.diamond
    → Decides r status text → (status ≡ Done) × (text ≡ line (codes "valid"))
Decides-valid r status text g within (dense_edges has many says) = absurd (within.edges many)
Decides-valid r status text g within (dense_triangles has many says) = absurd (within.triangles many)
Decides-valid r status text g within (broken k limits fails is says) = absurd (not_first (parts r) 1 k (all_hold r g) fails)
Decides-valid r status text g within (valid limits certified is says) = (is, says)

-- so is its text
pub Checks-valid : (input : List ℕ) (status : Status) (text : List ℕ) → IsValidText input → Checks input status text
    → (status ≡ Done) × (text ≡ line (codes "valid"))
Checks-valid input status text fine checks =
    let found : report_of input ≡ Ok fine.report = subst (λ (s : List ℕ). report_of s ≡ Ok fine.report) (sym fine.text) (whole_found fine.report fine.good.within) in
    by found checks
  where
    by : report_of input ≡ Ok fine.report → Checks input status text → (status ≡ Done) × (text ≡ line (codes "valid"))
    by found (refused why is says) = absurd (cc (found, is))
    by found (read r is text_is decides) =
        let same : fine.report ≡ r = cc (found, is) in
        Decides-valid r status text (subst IsGoodReport same fine.good) (subst (λ (x : Report). IsWithinLimits x.points x.diamond) same fine.within) decides

-- and short enough to be read
pub valid_short : (input : List ℕ) → IsValidText input → length input ≤ most_bytes
valid_short input fine = subst (λ (s : List ℕ). length s ≤ most_bytes) (sym fine.text) (report_short fine.report fine.good.within)

-- the text of the report of a file within the limits is that of a good report within the limits
report_is_valid : (file : File) (settings : Settings) (r : Report) → IsWithinLimits file.points.points settings.diamond
    → IsReportOf file settings r → IsValidText (report_text r)
report_is_valid file settings r within is = record {
  report = r;
  text = refl;
  good = is.certified.good;
  within = subst (λ (d : Diamond). IsWithinLimits r.points d) (sym is.diamond)
      (subst (λ (ps : List Point). IsWithinLimits ps settings.diamond) (sym is.points) within);
}

AnswersFile-valid : (file : File) (settings : Settings) (text : List ℕ) → AnswersFile Whole file settings Done text → IsValidText text
AnswersFile-valid file settings text (has_dense_edges many says) = absurd (cc says.0)
AnswersFile-valid file settings text (has_dense_triangles many says) = absurd (cc says.0)
AnswersFile-valid file settings text (tells within done_is (r, is, same)) = subst IsValidText (sym same) (report_is_valid file settings r within is)

pub Solves-valid : (settings : Settings) (input text : List ℕ) → Solves settings input Done text → IsValidText text
Solves-valid settings input text (file_refused why is says) = absurd (cc says.0)
Solves-valid settings input text (accepted file of reports) = AnswersFile-valid file settings text reports
