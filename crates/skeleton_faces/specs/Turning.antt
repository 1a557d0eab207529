-- The order in which points see the ends of their edges.
use Rattle.std.specs.Prelude.{◌≡◌, ◌≢◌, ◌⊎◌, ℕ, ◌+◌, ◌*◌, ◌<◌, ◌≤◌, List, Bool, true, false, length, All, AllPairs, Contains, slice_index, slice_index_or, pos, ◌<ℤ◌}
use Rattle.exact_predicates.specs.declared.edge.Edge.{Edge}
use Rattle.exact_predicates.specs.declared.point.Point.{Point}
use Rattle.exact_predicates.specs.Plane.{orient}
use Rattle.exact_predicates.specs.PointSet.{point_at}
use Rattle.skeleton_faces.specs.Faces.{IsNextSide}
use Rattle.skeleton_faces.specs.Marks.{nth_edge}
use Rattle.skeleton_faces.specs.Sides.{is_backward, side_start, side_end, twin}

-- going round the start of s and t to the left, from straight down, t comes after s: s goes forward and t backward, or
-- both go the same way and t is turned to the left from s
abbrev pub TurnsTo : List Point → List Edge → ℕ → ℕ → Type 0
TurnsTo ps es s t =
    ((is_backward s ≡ false) × (is_backward t ≡ true))
    ⊎ ((is_backward s ≡ is_backward t) × (pos 0 <ℤ orient (point_at ps (side_start es s)) (point_at ps (side_end es s)) (point_at ps (side_end es t))))

-- t comes after s: its start is greater, or it comes after s going round their start
abbrev pub ComesAfter : List Point → List Edge → ℕ → ℕ → Type 0
ComesAfter ps es s t = (side_start es s < side_start es t) ⊎ ((side_start es s ≡ side_start es t) × TurnsTo ps es s t)

-- The sides of the edges with P, start by start, and round each start to the left.
pub record AreTurning (ps : List Point) (es : List Edge) (P : ℕ → Type 0) (order : List ℕ) : Type 0 where
  pub each : All P order
  pub all : (s : ℕ) → P s → Contains order s
  pub sorted : AllPairs (ComesAfter ps es) order

-- Edges of which the flag is set, by number: by their lesser ends, and round each lesser end to the left.
pub record AreFannedOut (ps : List Point) (es : List Edge) (flags : List Bool) (order : List ℕ) : Type 0 where
  pub each : All (λ e. (e < length es) × (slice_index_or flags e false ≡ true)) order
  pub all : (e : ℕ) → slice_index_or flags e false ≡ true → Contains order e
  pub sorted : AllPairs (λ e f. ((nth_edge es e).a < (nth_edge es f).a)
      ⊎ (((nth_edge es e).a ≡ (nth_edge es f).a)
      × (pos 0 <ℤ orient (point_at ps (nth_edge es e).a) (point_at ps (nth_edge es e).b) (point_at ps (nth_edge es f).b)))) order

-- Going round the start of the side at the place q to the right, the side at the place p is the next one: it stands just
-- before it, or the one is the first with this start and the other the last.
pub record IsBefore (es : List Edge) (order : List ℕ) (q p : ℕ) : Type 0 where
  pub p_in : p < length order
  pub one_start : side_start es (slice_index order p) ≡ side_start es (slice_index order q)
  pub place : (p + 1 ≡ q) ⊎ (((k : ℕ) → k < q → side_start es (slice_index order k) ≢ side_start es (slice_index order q))
      × ((k : ℕ) → p < k → k < length order → side_start es (slice_index order k) ≢ side_start es (slice_index order q)))

-- Of each side, the one after it.
pub record AreNexts (ps : List Point) (es : List Edge) (nexts : List ℕ) : Type 0 where
  pub one_each : length nexts ≡ 2 * length es
  pub next_in : (s : ℕ) → s < 2 * length es → slice_index nexts s < 2 * length es
  pub on : (s : ℕ) → s < 2 * length es → side_start es (slice_index nexts s) ≡ side_end es s
  pub next : (s : ℕ) → s < 2 * length es → IsNextSide ps es (side_start es s) (side_end es s) (side_end es (slice_index nexts s))

-- the starts do not fall
abbrev pub StartsRise : List Edge → List ℕ → Type 0
StartsRise es order = (i j : ℕ) → i < j → j < length order → side_start es (slice_index order i) ≤ side_start es (slice_index order j)

-- The side after each side, by places: after the other side of that at each place comes the side before it.
pub record AreLinked (es : List Edge) (order nexts : List ℕ) : Type 0 where
  pub one_each : length nexts ≡ length order
  pub linked : (q : ℕ) → q < length order → (p : ℕ) × IsBefore es order q p × (slice_index nexts (twin (slice_index order q)) ≡ slice_index order p)
