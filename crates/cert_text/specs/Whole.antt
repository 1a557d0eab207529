-- Reading a whole report.
use Rattle.std.specs.Prelude.{ℕ, ◌+◌, ◌^◌, List, length, Result, Ok, Err, codes, ◌==◌, if◌then◌else◌}
use Rattle.mwt_base.specs.Limits.{most_edges, most_points, most_tiles, most_unit}
use Rattle.cert_text.specs.declared.limits.Limits.{Limits}
use Rattle.cert_text.specs.declared.parts.EdgePart.{EdgePart}
use Rattle.cert_text.specs.declared.parts.Head.{Head}
use Rattle.cert_text.specs.declared.parts.PointPart.{PointPart}
use Rattle.cert_text.specs.declared.parts.Tail.{Tail}
use Rattle.cert_text.specs.declared.refusal.Refusal2.{Refusal2}
use Rattle.cert_text.specs.declared.refusal.Reason.TheVariants.{AfterEnd}
use Rattle.cert_text.specs.declared.report.Report.{Report}
use Rattle.cert_text.specs.Reasons.{refused}
use Rattle.cert_text.specs.Lines.{point_in, hull_in, edge_in, tri_in, live_in, count_in, diamond_in, method_in, length_in, most_bound, amount_line_in, end_in}
use Rattle.cert_text.specs.Rows.{point_may_follow, hull_may_follow, edge_may_follow, live_may_follow, tri_may_follow}
use Rattle.cert_text.specs.Found.{◌>>=◌}
use Rattle.cert_text.specs.Reading.{Place, value_at, block_at, version_at}

-- the lines before the lists
unfoldable pub head_at : List ℕ → Result (Head × Place) Refusal2
head_at bytes = do
  version ← version_at bytes
  diamond ← value_at diamond_in version.1
  unit ← value_at (count_in (codes "unit") 0 (most_unit + 1)) diamond.1
  merged ← value_at (count_in (codes "merged") 0 (2 ^ 32)) unit.1
  Ok (record { version = version.0; diamond = diamond.0; unit = unit.0; merged = merged.0 }, merged.1)

-- the lines after the lists
unfoldable pub tail_at : ℕ → Place → Result (Tail × Place) Refusal2
tail_at version p = do
  method ← value_at (method_in version) p
  length ← value_at length_in method.1
  bound ← value_at (amount_line_in (codes "bound") (most_bound version)) length.1
  gap ← value_at (amount_line_in (codes "gap") (most_bound version)) bound.1
  last ← value_at end_in gap.1
  Ok (record { method = method.0; lo = length.0.0; hi = length.0.1; bound = bound.0; gap = gap.0 }, last.1)

-- the points, the hull and the number of candidate edges
unfoldable pub points_at : ℕ → Place → Result (PointPart × Place) Refusal2
points_at version p = do
  points ← block_at (codes "points") 3 (most_points + 1) point_in point_may_follow p
  let limits : Limits = record { version = version; points = length points.0 }
  hull ← block_at (codes "hull") 3 (length points.0 + 1) (hull_in limits) hull_may_follow points.1
  candidates ← value_at (count_in (codes "candidates") 0 (most_edges + 1)) hull.1
  Ok (record { points = points.0; hull = hull.0; candidates = candidates.0 }, candidates.1)

-- the live edges, the skeleton and the triangles
unfoldable pub edges_at : Limits → Place → Result (EdgePart × Place) Refusal2
edges_at limits p = do
  live ← block_at (codes "live") 0 (most_edges + 1) (live_in limits) live_may_follow p
  skeleton ← block_at (codes "skeleton") 0 (most_edges + 1) (edge_in limits) edge_may_follow live.1
  tris ← block_at (codes "triangles") 0 (most_tiles + 1) (tri_in limits) tri_may_follow skeleton.1
  Ok (record { live = live.0; skeleton = skeleton.0; tris = tris.0 }, tris.1)

-- a report by its parts
abbrev pub report_from : Head → PointPart → EdgePart → Tail → Report
report_from head points edges tail = record {
  version = head.version;
  diamond = head.diamond;
  unit = head.unit;
  merged = head.merged;
  points = points.points;
  hull = points.hull;
  candidates = points.candidates;
  live = edges.live;
  skeleton = edges.skeleton;
  tris = edges.tris;
  method = tail.method;
  lo = tail.lo;
  hi = tail.hi;
  bound = tail.bound;
  gap = tail.gap;
}

-- the lines of a report, which anything may follow
unfoldable pub report_at : List ℕ → Result (Report × Place) Refusal2
report_at bytes = do
  head ← head_at bytes
  points ← points_at head.0.version head.1
  edges ← edges_at (record { version = head.0.version; points = length points.0.points }) points.1
  tail ← tail_at head.0.version edges.1
  Ok (report_from head.0 points.0 edges.0 tail.0, tail.1)

abbrev pub ended : Report × Place → Result Report Refusal2
ended x = if length x.1.rest == 0 then Ok x.0 else Err (refused x.1.number AfterEnd)

-- The report that a text is, or the refusal of the first line that fails.
unfoldable pub report_of : List ℕ → Result Report Refusal2
report_of bytes = do
  x ← report_at bytes
  ended x
