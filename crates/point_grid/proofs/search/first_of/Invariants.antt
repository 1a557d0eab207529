use Rattle.std.proofs.Common.{ℕ, ◌<◌, slice_index}
use Rattle.exact_predicates.specs.PointSet.{point_at}
use Rattle.point_grid.specs.Regions.{Lies}
use Rattle.point_grid.proofs.search.first_of.Given as goal

abbrev pub invariant-loop-k : goal.invariant-loop-k
invariant-loop-k l = (j : ℕ) → j < l.k → ¬ Lies l.region (slice_index l.numbers j) (point_at l.points (slice_index l.numbers j))
