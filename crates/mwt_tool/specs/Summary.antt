-- The summary of a report, in eight lines.
use Rattle.std.specs.Prelude.{ℕ, List, [], ◌∷◌, ◌++◌, length, codes}
use Rattle.cert_text.specs.declared.report.Report.{Report}
use Rattle.cert_text.specs.Texts.{count_line, length_lines, lines_text}

abbrev pub count_lines : Report → List (List ℕ)
count_lines r =
    count_line (codes "points") (length r.points)
    ∷ count_line (codes "candidates") r.candidates
    ∷ count_line (codes "live") (length r.live)
    ∷ count_line (codes "skeleton") (length r.skeleton)
    ∷ count_line (codes "triangles") (length r.tris)
    ∷ []

-- the counts, the two ends of the length, the bound and the gap
unfoldable pub summary_lines : Report → List (List ℕ)
summary_lines r = count_lines r ++ length_lines r

abbrev pub summary_text : Report → List ℕ
summary_text r = lines_text (summary_lines r)
