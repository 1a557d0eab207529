-- Groups of points, each with the parent of each point: a lesser point of its group, or itself where it is the least.
use Rattle.std.specs.Prelude.{◌≡◌, ℕ, ◌<◌, ◌≤◌, List, length, slice_index}
use Rattle.exact_predicates.specs.declared.edge.Edge.{Edge}
use Rattle.skeleton_faces.specs.Walks.{AreJoined}

-- no parent is greater
abbrev pub AreLesser : List ℕ → Type 0
AreLesser parents = (p : ℕ) → p < length parents → slice_index parents p ≤ p

-- each point is joined to its parent
abbrev pub AreJoinedParents : List Edge → List ℕ → Type 0
AreJoinedParents es parents = (p : ℕ) → p < length parents → AreJoined es p (slice_index parents p)

-- A name for each group: that of its least point.
pub record IsNaming (parents : List ℕ) (name : ℕ → ℕ) : Type 0 where
  pub same : (p : ℕ) → p < length parents → name p ≡ name (slice_index parents p)
  pub own : (p : ℕ) → p < length parents → slice_index parents p ≡ p → name p ≡ p

-- what has one name has one coarser name
abbrev pub IsCoarser : (ℕ → ℕ) → (ℕ → ℕ) → Type 0
IsCoarser name coarser = (p q : ℕ) → name p ≡ name q → coarser p ≡ coarser q
