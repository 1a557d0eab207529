-- The faces of a list of edges: the cycles of its sides, each side followed by the next one clockwise.
use Rattle.std.specs.Prelude.{◌≡◌, ◌≢◌, ◌⊎◌, ℕ, ◌+◌, ◌%◌, ◌<◌, List, length, All, AllPairs, Any, slice_index, pos, ◌<ℤ◌}
use Rattle.exact_predicates.specs.declared.edge.Edge.{Edge}
use Rattle.exact_predicates.specs.declared.point.Point.{Point}
use Rattle.exact_predicates.specs.Plane.{orient, IsBetween}
use Rattle.exact_predicates.specs.PointSet.{point_at}
use Rattle.exact_predicates.specs.Candidates.{EdgePrecedes, HasEdge}

-- seen from o, q lies to the right of p: less than half a turn clockwise from it
abbrev pub IsRight : Point → Point → Point → Type 0
IsRight o p q = orient o p q <ℤ pos 0

-- Seen from o in three directions, p, q and r come one after the other clockwise: of the three turns from one to the next
-- two are to the right. (Together they are one whole turn, so at most one is half a turn or more.)
abbrev pub AreClockwise : Point → Point → Point → Point → Type 0
AreClockwise o p q r = (IsRight o p q × IsRight o q r) ⊎ ((IsRight o q r × IsRight o r p) ⊎ (IsRight o r p × IsRight o p q))

-- The side v to x comes after the side u to v: turning clockwise at v from the direction of u, x is the first other
-- neighbour of v that is met; it is u where v has no other.
pub record IsNextSide (ps : List Point) (es : List Edge) (u v x : ℕ) : Type 0 where
  pub side : HasEdge es u v
  pub next : HasEdge es v x
  pub alone : x ≡ u → (y : ℕ) → HasEdge es v y → y ≡ u
  pub first : (y : ℕ) → HasEdge es v y → y ≢ u → y ≢ x → AreClockwise (point_at ps v) (point_at ps u) (point_at ps x) (point_at ps y)

-- the member k of a cycle, counted on round it
abbrev pub round_at : List ℕ → ℕ → ℕ
round_at cycle k = slice_index cycle (k % length cycle)

-- the order of sides: by start, then by end
abbrev pub SidePrecedes : ℕ → ℕ → ℕ → ℕ → Type 0
SidePrecedes u v x y = (u < x) ⊎ ((u ≡ x) × (v < y))

-- the side at the place k of the cycle c is that at the place m of the cycle d
abbrev pub IsSameSide : List ℕ → ℕ → List ℕ → ℕ → Type 0
IsSameSide c k d m = (round_at c k ≡ round_at d m) × (round_at c (k + 1) ≡ round_at d (m + 1))

-- A face: a cycle of sides by their starts, each side followed by the one after it, and none of them twice. It begins at
-- its least side.
pub record IsFace (ps : List Point) (es : List Edge) (cycle : List ℕ) : Type 0 where
  pub some : 0 < length cycle
  pub follows : (k : ℕ) → k < length cycle → IsNextSide ps es (round_at cycle k) (round_at cycle (k + 1)) (round_at cycle (k + 2))
  pub once : (k m : ℕ) → k < m → m < length cycle → ¬ IsSameSide cycle k cycle m
  pub least : (k : ℕ) → 0 < k → k < length cycle → SidePrecedes (round_at cycle 0) (round_at cycle 1) (round_at cycle k) (round_at cycle (k + 1))

-- the side u to v is one of the cycle's
abbrev pub HasRoundSide : List ℕ → ℕ → ℕ → Type 0
HasRoundSide cycle u v = (k : ℕ) × (k < length cycle) × (round_at cycle k ≡ u) × (round_at cycle (k + 1) ≡ v)

-- The faces of the edges: each side stands in one of them, and they come in the order of their first sides.
pub record AreFaces (ps : List Point) (es : List Edge) (cycles : List (List ℕ)) : Type 0 where
  pub each : All (IsFace ps es) cycles
  pub all : (u v : ℕ) → HasEdge es u v → Any (λ c. HasRoundSide c u v) cycles
  pub apart : AllPairs (λ c d. (u v : ℕ) → HasRoundSide c u v → ¬ HasRoundSide d u v) cycles
  pub ascending : AllPairs (λ c d. SidePrecedes (round_at c 0) (round_at c 1) (round_at d 0) (round_at d 1)) cycles

-- Edges of the points that have faces: ascending, with no point between their ends. So no two at one point have the same
-- direction.
pub record AreClear (ps : List Point) (es : List Edge) : Type 0 where
  pub ascending : AllPairs EdgePrecedes es
  pub ends_in : All (λ e. e.b < length ps) es
  pub clear : All (λ e. (r : ℕ) → r < length ps → ¬ IsBetween (point_at ps e.a) (point_at ps e.b) (point_at ps r)) es
