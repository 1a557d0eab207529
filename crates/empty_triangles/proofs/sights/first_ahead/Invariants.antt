use Rattle.std.proofs.Common.{ℕ, ◌-◌, ◌<◌, ◌≤◌, length, slice_index}
use Rattle.empty_triangles.specs.Rays.{IsAhead}
use Rattle.empty_triangles.proofs.sights.first_ahead.Given as goal

abbrev pub invariant-loop-from : goal.invariant-loop-from
invariant-loop-from l = record {
  rises : l.from ≤ l.to;
  within : l.to ≤ length l.places;
  before : (s : ℕ) → s < l.from → ¬ IsAhead l.points.points l.heads l.j l.k (slice_index l.places s);
  after : (s : ℕ) → l.to ≤ s → s < length l.places → IsAhead l.points.points l.heads l.j l.k (slice_index l.places s);
}

abbrev pub decreases-loop-from : goal.decreases-loop-from
decreases-loop-from l = l.to - l.from
