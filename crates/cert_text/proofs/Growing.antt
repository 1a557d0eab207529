-- A text that grows piece by piece.
use Rattle.std.proofs.Common.{◌≡◌, ℕ, List, [], ◌++◌, sym, ap, ◌∙◌, append_assoc}
use Rattle.std.proofs.lemmas.Grind.{flat_map-append}
use Rattle.mwt_base.specs.Line.{line}
use Rattle.cert_text.specs.Texts.{lines_text, Grows, head_lines, point_lines, edge_lines, tail_lines, report_lines, report_text}
use Rattle.cert_text.specs.declared.report.Report.{Report}

-- lines after lines
pub grows_then : (a b c : List ℕ) (xs ys : List (List ℕ)) → Grows a b xs → Grows b c ys → Grows a c (xs ++ ys)
grows_then a b c xs ys p q =
    q ∙ ap (λ (t : List ℕ). t ++ lines_text ys) p ∙ append_assoc a (lines_text xs) (lines_text ys) ∙ ap (λ (t : List ℕ). a ++ t) (sym (flat_map-append line xs ys))

-- a whole report, part by part
pub report_grown : (a b c d e : List ℕ) (r : Report) → a ≡ [] → Grows a b (head_lines r) → Grows b c (point_lines r) → Grows c d (edge_lines r) → Grows d e (tail_lines r)
    → e ≡ report_text r
unfolding report_lines
report_grown a b c d e r none head points edges tail =
    let all = grows_then a b e (head_lines r) (point_lines r ++ (edge_lines r ++ tail_lines r)) head
    (grows_then b c e (point_lines r) (edge_lines r ++ tail_lines r) points (grows_then c d e (edge_lines r) (tail_lines r) edges tail)) in
    rw none at all
