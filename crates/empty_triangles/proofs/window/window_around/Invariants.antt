use Rattle.std.proofs.Common.{◌≡◌, ℕ, ◌+◌, ◌<◌, ◌≤◌, ◌≤ℤ◌, length, slice_index}
use Rattle.exact_predicates.specs.PointSet.{point_at}
use Rattle.point_grid.specs.Windows.{IsIn}
use Rattle.empty_triangles.proofs.window.window_around.Given as goal

abbrev pub invariant-loop-i : goal.invariant-loop-i
invariant-loop-i l = record {
  from : l.window.from ≡ l.a + 1;
  to : l.window.to ≤ length l.points.points;
  low : l.window.low ≤ℤ (point_at l.points.points l.a).y;
  high : (point_at l.points.points l.a).y ≤ℤ l.window.high;
  each : (k : ℕ) → k < l.i → IsIn l.points.points l.window (slice_index l.numbers k);
}
