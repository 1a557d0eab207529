use Rattle.std.proofs.Common.{◌≡◌, ℕ, ◌<◌, vec_len, slice_index, slice_index_or}
use Rattle.point_grid.specs.declared.sight.Sight.{Sight}
use Rattle.point_grid.specs.Directions.{IsSight}
use Rattle.point_grid.proofs.direction.fill_sights.Given as goal

abbrev pub invariant-loop-i : goal.invariant-loop-i
invariant-loop-i l =
    (vec_len l.sights ≡ l.i) × ((k : ℕ) (d : Sight) → k < vec_len l.sights → IsSight l.points.points l.a (slice_index l.numbers k) (slice_index_or l.sights.items k d))
