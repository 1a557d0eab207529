use Rattle.std.proofs.Common.{◌≡◌, ℕ, ◌<◌, slice_index_or}
use Rattle.point_grid.specs.declared.spot.Spot.{Spot}
use Rattle.point_grid.specs.Tree.{Grows}
use Rattle.point_grid.proofs.box_tree.push_leaves.Given as goal

abbrev pub invariant-loop-s : goal.invariant-loop-s
invariant-loop-s l =
    Grows l.fn.entries.items l.entries.items (λ (s : Spot). (k : ℕ) × (k < l.s-index) × (slice_index_or l.spots k s ≡ s))
