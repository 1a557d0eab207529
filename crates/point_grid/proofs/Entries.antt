-- What an entry of a tree is.
use Rattle.std.proofs.Common.{◌≡◌, ℕ, ◌<◌, List, length, get_or, sym, ◌∙◌}
use Rattle.std.proofs.lemmas.List.{get_or_default}
use Rattle.point_grid.specs.declared.frame.Frame.{Frame}
use Rattle.point_grid.specs.declared.spot.Entry.{Entry}
use Rattle.point_grid.specs.declared.spot.Entry.TheVariants.{Leaf, Fork}
use Rattle.point_grid.specs.declared.spot.Spot.{Spot}
use Rattle.point_grid.specs.Tree.{HasLeaf, HasFork}

-- an entry that is read
pub HasLeaf-read : (es : List Entry) (k : ℕ) (e : Entry) (s : Spot) → k < length es → e ≡ get_or es k e → e ≡ Leaf s → HasLeaf es k s
HasLeaf-read es k e s l at is = (l, get_or_default es k (Leaf s) e l ∙ (sym at ∙ is))

pub HasFork-read : (es : List Entry) (k : ℕ) (e : Entry) (f : Frame) (start : ℕ) → k < length es → e ≡ get_or es k e → e ≡ Fork f start → HasFork es k f start
HasFork-read es k e f start l at is = (l, get_or_default es k (Fork f start) e l ∙ (sym at ∙ is))

-- an entry is a spot or a frame
pub leaf_or_fork : (es : List Entry) (k : ℕ) (s : Spot) (f : Frame) (start : ℕ) → HasLeaf es k s → HasFork es k f start → ⊥
leaf_or_fork es k s f start leaf fork =
    let e : Leaf s ≡ Fork f start = sym leaf.1 ∙ (get_or_default es k (Leaf s) (Fork f start) leaf.0 ∙ fork.1) in cc

-- and no two spots
pub same_leaf : (es : List Entry) (k : ℕ) (s t : Spot) → HasLeaf es k s → HasLeaf es k t → s ≡ t
same_leaf es k s t leaf other =
    let e : Leaf s ≡ Leaf t = sym leaf.1 ∙ (get_or_default es k (Leaf s) (Leaf t) leaf.0 ∙ other.1) in cc
