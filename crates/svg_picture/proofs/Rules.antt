-- A text that is no report breaks one of the rules of a report.
use Rattle.std.proofs.Common.{◌≡◌, ℕ, zero, suc, ◌+◌, ◌^◌, Bool, true, false, cond, List, length, Option, Some, None, Result, Ok, Err, codes, ◌==◌, bytes_eq, arith, subst}
use Rattle.std.specs.Prelude.{⊤}
use Rattle.mwt_base.specs.Limits.{most_edges, most_points, most_tiles, most_unit}
use Rattle.cert_text.specs.declared.found.Flaw.TheVariants.{NotSpelled, Outside}
use Rattle.cert_text.specs.declared.limits.Limits.{Limits}
use Rattle.cert_text.specs.declared.refusal.Refusal2.{Refusal2}
use Rattle.cert_text.specs.Cuts.{cut, fields}
use Rattle.cert_text.specs.Found.{◌>>=◌, Found}
use Rattle.cert_text.specs.Lines.{amount_line_in, count_in, diamond_in, edge_in, end_in, hull_in, length_in, live_in, method_in, most_bound, point_in, tri_in}
use Rattle.cert_text.specs.Reading.{Place, block_at, is_behind, judged, line_at, line_by, row_at, rows_at, value_at, version_at, version_by}
use Rattle.cert_text.specs.Rows.{edge_may_follow, hull_may_follow, live_may_follow, point_may_follow, tri_may_follow}
use Rattle.cert_text.specs.Whole.{edges_at, head_at, points_at, report_at, report_of, tail_at}
use Rattle.svg_picture.specs.Draws.{IsReportRule}

-- a refusal, if there is one, has the code of such a rule
abbrev HasRule : {X : Type 0} → Result X Refusal2 → Type 0
HasRule (Ok x) = ⊤
HasRule (Err why) = IsReportRule why.code

then_rule : {A B : Type 0} (r : Result A Refusal2) (f : A → Result B Refusal2) → HasRule r → ((x : A) → HasRule (f x)) → HasRule (r >>= f)
then_rule (Ok x) f h k = k x
then_rule (Err why) f h k = h

test_rule : {A : Type 0} (b : Bool) (x : A) (why : Refusal2) → IsReportRule why.code → HasRule (cond b (Ok x) (Err why))
test_rule true x why h = tt
test_rule false x why h = h

line_by_rule : (n : ℕ) (o : Option (List ℕ × List ℕ)) → HasRule (line_by n o)
line_by_rule n None = record { least = omega arith; most = omega arith }
line_by_rule n (Some parts) = tt

line_rule : (p : Place) → HasRule (line_at p)
unfolding line_at
line_rule p = line_by_rule p.number (cut 10 p.rest)

judged_rule : {X : Type 0} (n : ℕ) (f : Found X) → HasRule (judged n f)
judged_rule n (Err NotSpelled) = record { least = omega arith; most = omega arith }
judged_rule n (Err Outside) = record { least = omega arith; most = omega arith }
judged_rule n (Ok x) = tt

value_rule : {X : Type 0} (says : List (List ℕ) → Found X) (p : Place) → HasRule (value_at says p)
unfolding value_at
value_rule says p =
    then_rule (line_at p) _ (line_rule p) (λ line. then_rule (judged p.number (says (fields line.0))) _ (judged_rule p.number (says (fields line.0))) (λ x. tt))

row_rule : {X : Type 0} (says : List (List ℕ) → Found X) (may_follow : X → X → Bool) (last : Option X) (p : Place) → HasRule (row_at says may_follow last p)
unfolding row_at
row_rule says may_follow last p =
    then_rule (value_at says p) _ (value_rule says p)
    (λ x. test_rule (is_behind may_follow last x.0) x _ (record { least = omega arith; most = omega arith }))

rows_rule : {X : Type 0} (says : List (List ℕ) → Found X) (may_follow : X → X → Bool) (last : Option X) (n : ℕ) (p : Place) → HasRule (rows_at says may_follow last n p)
unfolding rows_at
rows_rule says may_follow last zero p = tt
rows_rule says may_follow last (suc n) p =
    then_rule (row_at says may_follow last p) _ (row_rule says may_follow last p)
    (λ first. then_rule (rows_at says may_follow (Some first.0) n first.1) _ (rows_rule says may_follow (Some first.0) n first.1) (λ others. tt))

block_rule : {X : Type 0} (word : List ℕ) (low end : ℕ) (says : List (List ℕ) → Found X) (may_follow : X → X → Bool) (p : Place) → HasRule (block_at word low end says may_follow p)
unfolding block_at
block_rule word low end says may_follow p =
    then_rule (value_at (count_in word low end) p) _ (value_rule (count_in word low end) p) (λ count. rows_rule says may_follow None count.0 count.1)

version_by_rule : (line : List ℕ) → HasRule (version_by line)
version_by_rule line = by (bytes_eq line (codes "mwt 1")) (bytes_eq line (codes "mwt 2"))
  where
    by : (a b : Bool) → HasRule {X = ℕ} (cond a (Ok 1) (cond b (Ok 2) (Err (record { code = 30; line = 1 }))))
    by true b = tt
    by false true = tt
    by false false = record { least = omega arith; most = omega arith }

version_rule : (bytes : List ℕ) → HasRule (version_at bytes)
unfolding version_at
version_rule bytes =
    then_rule (line_at (record { number = 1; rest = bytes })) _ (line_rule (record { number = 1; rest = bytes }))
    (λ line. then_rule (version_by line.0) _ (version_by_rule line.0) (λ version. tt))

head_rule : (bytes : List ℕ) → HasRule (head_at bytes)
unfolding head_at
head_rule bytes =
    then_rule (version_at bytes) _ (version_rule bytes)
    (λ version. then_rule (value_at diamond_in version.1) _ (value_rule diamond_in version.1)
    (λ diamond. then_rule _ _ (value_rule (count_in (codes "unit") 0 (most_unit + 1)) diamond.1)
    (λ unit. then_rule _ _ (value_rule (count_in (codes "merged") 0 (2 ^ 32)) unit.1) (λ merged. tt))))

points_rule : (version : ℕ) (p : Place) → HasRule (points_at version p)
unfolding points_at
points_rule version p =
    then_rule _ _ (block_rule (codes "points") 3 (most_points + 1) point_in point_may_follow p)
    (λ points. let limits : Limits = record { version = version; points = length points.0 } in
    then_rule _ _ (block_rule (codes "hull") 3 (length points.0 + 1) (hull_in limits) hull_may_follow points.1)
    (λ hull. then_rule _ _ (value_rule (count_in (codes "candidates") 0 (most_edges + 1)) hull.1) (λ candidates. tt)))

edges_rule : (limits : Limits) (p : Place) → HasRule (edges_at limits p)
unfolding edges_at
edges_rule limits p =
    then_rule _ _ (block_rule (codes "live") 0 (most_edges + 1) (live_in limits) live_may_follow p)
    (λ live. then_rule _ _ (block_rule (codes "skeleton") 0 (most_edges + 1) (edge_in limits) edge_may_follow live.1)
    (λ skeleton. then_rule _ _ (block_rule (codes "triangles") 0 (most_tiles + 1) (tri_in limits) tri_may_follow skeleton.1) (λ tris. tt)))

tail_rule : (version : ℕ) (p : Place) → HasRule (tail_at version p)
unfolding tail_at
tail_rule version p =
    then_rule _ _ (value_rule (method_in version) p)
    (λ method. then_rule _ _ (value_rule length_in method.1)
    (λ length. then_rule _ _ (value_rule (amount_line_in (codes "bound") (most_bound version)) length.1)
    (λ bound. then_rule _ _ (value_rule (amount_line_in (codes "gap") (most_bound version)) bound.1)
    (λ gap. then_rule _ _ (value_rule end_in gap.1) (λ last. tt)))))

report_at_rule : (bytes : List ℕ) → HasRule (report_at bytes)
unfolding report_at
report_at_rule bytes =
    then_rule (head_at bytes) _ (head_rule bytes)
    (λ head. then_rule (points_at head.0.version head.1) _ (points_rule head.0.version head.1)
    (λ points. let limits : Limits = record { version = head.0.version; points = length points.0.points } in
    then_rule (edges_at limits points.1) _ (edges_rule limits points.1)
    (λ edges. then_rule (tail_at head.0.version edges.1) _ (tail_rule head.0.version edges.1) (λ tail. tt))))

report_rule : (bytes : List ℕ) → HasRule (report_of bytes)
unfolding report_of
report_rule bytes =
    then_rule (report_at bytes) _ (report_at_rule bytes)
    (λ x. test_rule (length x.1.rest == 0) x.0 _ (record { least = omega arith; most = omega arith }))

-- the rule for which a text is refused
pub refused_rule : (bytes : List ℕ) (why : Refusal2) → report_of bytes ≡ Err why → IsReportRule why.code
refused_rule bytes why e = subst HasRule e (report_rule bytes)
