-- Spots of a tree that block a side of an edge.
use Rattle.std.specs.Prelude.{ℕ, List}
use Rattle.exact_predicates.specs.declared.point.Point.{Point}
use Rattle.exact_predicates.specs.Blocking.{Blocks}
use Rattle.point_grid.specs.declared.spot.Entry.{Entry}
use Rattle.point_grid.specs.declared.spot.Spot.{Spot}
use Rattle.point_grid.specs.Tree.{HasLeaf}

-- no spot blocks the left side of p to q
abbrev pub HasNoBlocker : List Entry → Point → Point → Type 0
HasNoBlocker es p q = (k : ℕ) (s : Spot) → HasLeaf es k s → ¬ Blocks p q s.point

-- the spot s does
abbrev pub IsBlocker : List Entry → Point → Point → Spot → Type 0
IsBlocker es p q s = ((k : ℕ) × HasLeaf es k s) × Blocks p q s.point
