use Rattle.std.proofs.Common.{codes, List, [], ◌∷◌, ◌++◌, ℕ}
use Rattle.cert_text.specs.Texts.{count_line}
use Rattle.cert_text.proofs.Growing.{grows_then}
use Rattle.mwt_tool.proofs.summary.write_counts.Goals as goal

pub returns : goal.returns
returns c =
    let line : List ℕ → ℕ → List (List ℕ) = λ word n. count_line word n ∷ [] in
    let points = line (codes "points") c.len.result in
    let candidates = line (codes "candidates") c.args.report.now.candidates in
    let live = line (codes "live") c.len-2.result in
    let skeleton = line (codes "skeleton") c.len-3.result in
    let tris = line (codes "triangles") c.len-4.result in
    rw (← c.len.ensures, ← c.len-2.ensures, ← c.len-3.ensures, ← c.len-4.ensures)
    (grows_then _ _ _ points (candidates ++ (live ++ (skeleton ++ tris))) c.in_ok-write_count.ensures
    (grows_then _ _ _ candidates (live ++ (skeleton ++ tris)) c.in_ok-write_count-2.ensures
    (grows_then _ _ _ live (skeleton ++ tris) c.in_ok-write_count-3.ensures
    (grows_then _ _ _ skeleton tris c.in_ok-write_count-4.ensures c.in_ok-write_count-5.ensures))))
