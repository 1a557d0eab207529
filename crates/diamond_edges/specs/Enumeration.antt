-- Candidate edges without the hull, and how they are found.
use Rattle.std.specs.Prelude.{◌≡◌, ◌≢◌, ◌↔◌, ◌⊎◌, ℕ, ◌<◌, Bool, false, IsTrue, List, length, slice_index, slice_index_or, All, AllPairs, Contains}
use Rattle.exact_predicates.specs.declared.diamond.Diamond.{Diamond}
use Rattle.exact_predicates.specs.declared.diamond.Diamond.TheVariants.{Off, On}
use Rattle.exact_predicates.specs.declared.edge.Edge.{Edge}
use Rattle.exact_predicates.specs.declared.point.Point.{Point}
use Rattle.exact_predicates.specs.Blocking.{IsFree}
use Rattle.point_grid.specs.declared.spot.Entry.{Entry}
use Rattle.point_grid.specs.Directions.{Sees}
use Rattle.point_grid.specs.Tree.{AreSpotsOf}

-- a side of a to b is free
abbrev pub IsLinked : List Point → ℕ → ℕ → Type 0
IsLinked ps a b = IsFree ps a b ⊎ IsFree ps b a

-- the points a and b are the ends of a candidate edge, as it is told without the hull
abbrev pub IsOpen : Diamond → List Point → ℕ → ℕ → Type 0
IsOpen Off ps a b = Sees ps a b
IsOpen On ps a b = IsLinked ps a b

-- the same of an edge
abbrev pub IsOpenEdge : Diamond → List Point → Edge → Type 0
IsOpenEdge diamond ps e = (e.b < length ps) × IsOpen diamond ps e.a e.b

-- the edges from a to these greater ends
pub record AreEdgesTo (a : ℕ) (ends : List ℕ) (es : List Edge) : Type 0 where
  pub count : length es ≡ length ends
  pub each : (k : ℕ) (d : Edge) → k < length es → let e = slice_index_or es k d in (e.a ≡ a) × (e.b ≡ slice_index ends k)

-- a mark for each point: which of those after a it sees
pub record MarksSeen (ps : List Point) (a : ℕ) (marks : List Bool) : Type 0 where
  pub whole : length marks ≡ length ps
  pub marked : (b : ℕ) → a < b → b < length ps → IsTrue (slice_index_or marks b false) ↔ Sees ps a b

-- the numbers between a and n, each once
pub record AreNumbersBetween (a n : ℕ) (numbers : List ℕ) : Type 0 where
  pub each : All (λ b. (a < b) × (b < n)) numbers
  pub all : (b : ℕ) → a < b → b < n → Contains numbers b
  pub distinct : AllPairs (λ b c. b ≢ c) numbers

-- what is asked where the row of a is made
pub record IsReady (ps : List Point) (es : List Entry) (a : ℕ) : Type 0 where
  pub tree : AreSpotsOf ps es
  pub a_in : a < length ps
