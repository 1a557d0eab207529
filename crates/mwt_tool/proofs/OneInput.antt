-- The texts for one input are alike, and with the same settings one.
use Rattle.std.proofs.Common.{◌≡◌, ℕ, List, length, map, arith, ap, sym, ◌∙◌, refl, subst}
use Rattle.std.proofs.lemmas.List.{length-map}
use Rattle.std.proofs.lemmas.List.Sorted.{Contains-permutation, IsPermutation-sym}
use Rattle.mwt_base.specs.declared.status.Status.TheVariants.{Done}
use Rattle.exact_predicates.specs.declared.point.Point.{Point}
use Rattle.exact_predicates.specs.Merging.{IsMadeFrom, firsts}
use Rattle.exact_predicates.specs.Plane.{Precedes}
use Rattle.exact_predicates.proofs.Ascending.{ascending-only}
use Rattle.exact_predicates.proofs.Order.{Precedes-not}
use Rattle.cert_text.specs.declared.report.Report.{Report}
use Rattle.cert_text.specs.Texts.{report_text}
use Rattle.tsplib_points.specs.declared.file.File.{File}
use Rattle.tsplib_points.specs.Files.{IsFileOf, nodes_of}
use Rattle.tsplib_points.specs.Refusals.{scaled}
use Rattle.mwt_tool.specs.declared.solver.Settings.{Settings}
use Rattle.mwt_tool.specs.declared.solving.Form.TheVariants.{Whole}
use Rattle.mwt_tool.specs.OneFile.{OneInputAlike, OneText}
use Rattle.mwt_tool.specs.ReportOf.{IsReportOf}
use Rattle.mwt_tool.specs.Solves.{AnswersFile, Solves, tells, accepted, refused as file_refused, dense_edges as has_dense_edges, dense_triangles as has_dense_triangles}
use Rattle.mwt_tool.proofs.OneReport.{are_alike}

-- the files of one input hold the same points, in the same unit, and as many nodes of each went
points_once : (input : List ℕ) (f g : File) → IsFileOf input f → IsFileOf input g → f.points.points ≡ g.points.points
points_once input f g a b =
    let units : f.unit ≡ g.unit = a.least_unit ∙ sym b.least_unit in
    let list = map (scaled f.unit) (nodes_of input) in
    let other : IsMadeFrom list g.points = subst (λ (k : ℕ). IsMadeFrom (map (scaled k) (nodes_of input)) g.points) (sym units) b.made in
    ascending-only Precedes Precedes-not f.points.points g.points.points a.made.ordered.ascending other.ordered.ascending
    (λ p has. Contains-permutation (firsts list) g.points.points p other.stay
    (Contains-permutation f.points.points (firsts list) p (IsPermutation-sym (firsts list) f.points.points a.made.stay) has))
    (λ p has. Contains-permutation (firsts list) f.points.points p a.made.stay
    (Contains-permutation g.points.points (firsts list) p (IsPermutation-sym (firsts list) g.points.points other.stay) has))

merged_once : (input : List ℕ) (f g : File) → IsFileOf input f → IsFileOf input g → f.merged ≡ g.merged
merged_once input f g a b =
    let units : f.unit ≡ g.unit = a.least_unit ∙ sym b.least_unit in
    let points = ap (λ (ps : List Point). length ps) (points_once input f g a b) in
    let count = a.made.merged in
    let other = b.made.merged in
    let size = length-map (nodes_of input) (scaled f.unit) in
    let other_size = length-map (nodes_of input) (scaled g.unit) in
    a.merged_told ∙ (omega (arith, points, count, other, size, other_size) ∙ sym b.merged_told)

-- what `solve` means to write with Done is the text of the report of some file of the input
record IsTextFor (settings : Settings) (input text : List ℕ) : Type 0 where
  file : File
  report : Report
  file_is : IsFileOf input file
  report_is : IsReportOf file settings report
  text_is : text ≡ report_text report

in_file : (settings : Settings) (input text : List ℕ) (file : File) → IsFileOf input file → AnswersFile Whole file settings Done text → IsTextFor settings input text
in_file settings input text file of (has_dense_edges many says) = absurd (cc says.0)
in_file settings input text file of (has_dense_triangles many says) = absurd (cc says.0)
in_file settings input text file of (tells within done_is (r, is, same)) =
    record { file = file; report = r; file_is = of; report_is = is; text_is = same }

in_input : (settings : Settings) (input text : List ℕ) → Solves settings input Done text → IsTextFor settings input text
in_input settings input text (file_refused why is says) = absurd (cc says.0)
in_input settings input text (accepted file of reports) = in_file settings input text file of reports

pub one_input_alike : OneInputAlike
one_input_alike input first second s t diamond x y =
    let a = in_input s input first x in
    let b = in_input t input second y in
    record {
      r = a.report;
      q = b.report;
      first_is = a.text_is;
      second_is = b.text_is;
      alike = are_alike a.file b.file s t a.report b.report diamond (points_once input a.file b.file a.file_is b.file_is)
          (a.file_is.least_unit ∙ sym b.file_is.least_unit) (merged_once input a.file b.file a.file_is b.file_is) a.report_is b.report_is;
    }

pub one_text : OneText
one_text input first second s t diamond sweeps x y =
    let both = one_input_alike input first second s t diamond x y in
    both.first_is ∙ (ap report_text (both.alike.same sweeps) ∙ sym both.second_is)
