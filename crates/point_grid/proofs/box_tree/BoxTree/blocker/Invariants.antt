use Rattle.std.proofs.Common.{ℕ, ◌≤◌, vec_len}
use Rattle.exact_predicates.specs.Blocking.{Blocks}
use Rattle.point_grid.specs.declared.spot.Spot.{Spot}
use Rattle.point_grid.specs.Tree.{HasLeaf}
use Rattle.point_grid.proofs.box_tree.BoxTree.blocker.Given as goal

abbrev pub invariant-loop-end : goal.invariant-loop-end
invariant-loop-end l =
    (l.end ≤ vec_len l.self-inside.entries) × ((k : ℕ) (s : Spot) → l.end ≤ k → HasLeaf l.self-inside.entries.items k s → ¬ Blocks l.p l.q s.point)

abbrev pub decreases-loop-end : goal.decreases-loop-end
decreases-loop-end l = l.end
