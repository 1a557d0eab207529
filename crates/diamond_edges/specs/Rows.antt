-- Rows of the candidate edges, by their lesser ends.
use Rattle.std.specs.Prelude.{◌≡◌, ◌⊎◌, ℕ, ◌<◌, ◌≤◌, List, length, All, Contains}
use Rattle.exact_predicates.specs.declared.diamond.Diamond.{Diamond}
use Rattle.exact_predicates.specs.declared.diamond.Diamond.TheVariants.{On}
use Rattle.exact_predicates.specs.declared.point.Point.{Point}
use Rattle.exact_predicates.specs.Blocking.{Blocks}
use Rattle.exact_predicates.specs.PointSet.{point_at}
use Rattle.point_grid.specs.declared.spot.Entry.{Entry}
use Rattle.point_grid.specs.declared.spot.Spot.{Spot}
use Rattle.point_grid.specs.Listing.{IsListing}
use Rattle.point_grid.specs.Tree.{HasLeaf}
use Rattle.diamond_edges.specs.Enumeration.{IsOpen}

-- some point of ps blocks the left side of p to q
abbrev pub IsBlocked : List Point → Point → Point → Type 0
IsBlocked ps p q = (r : ℕ) × (r < length ps) × Blocks p q (point_at ps r)

-- none does
abbrev pub IsClear : List Point → Point → Point → Type 0
IsClear ps p q = (r : ℕ) → r < length ps → ¬ Blocks p q (point_at ps r)

-- b is the greater end of a candidate edge from a
abbrev pub IsNext : Diamond → List Point → ℕ → ℕ → Type 0
IsNext diamond ps a b = (a < b) × (b < length ps) × IsOpen diamond ps a b

-- the greater ends of the candidate edges from a, ascending
abbrev pub IsRow : Diamond → List Point → ℕ → List ℕ → Type 0
IsRow diamond ps a row = IsListing (λ b c. b < c) (IsNext diamond ps a) (λ b. b < length ps) row

-- the new row has the greater ends of the old one, those of such edges to spots from the entry lo on and before hi, and no other
pub record Adds (ps : List Point) (a : ℕ) (es : List Entry) (lo hi : ℕ) (old new : List ℕ) : Type 0 where
  pub kept : (b : ℕ) → Contains old b → Contains new b
  pub only : (b : ℕ) → Contains new b → Contains old b ⊎ IsNext On ps a b
  pub found : (k : ℕ) (s : Spot) → lo ≤ k → k < hi → HasLeaf es k s → IsNext On ps a s.number → Contains new s.number

-- numbers of points, which may be any
abbrev pub AreGuesses : List Point → List ℕ → Type 0
AreGuesses ps slots = (length slots ≡ 50) × All (λ w. w < length ps) slots
