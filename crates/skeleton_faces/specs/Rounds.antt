-- Going round from side to side.
use Rattle.std.specs.Prelude.{◌≡◌, ◌≢◌, ◌⊎◌, ℕ, zero, suc, ◌+◌, ◌-◌, ◌*◌, ◌<◌, ◌≤◌, List, Bool, true, false, [], ◌∷◌, ◌++◌, length, map, replicate, All, AllPairs, Any, slice_index, slice_index_or}
use Rattle.std.specs.List.{range_with_len}
use Rattle.exact_predicates.specs.declared.edge.Edge.{Edge}
use Rattle.skeleton_faces.specs.declared.rounds.Rounds.{Rounds}
use Rattle.skeleton_faces.specs.Faces.{HasRoundSide, SidePrecedes, round_at}
use Rattle.skeleton_faces.specs.Marks.{nth_edge}
use Rattle.skeleton_faces.specs.Sides.{side_start, side_end}
use Rattle.skeleton_faces.specs.Tables.{AreBounds, pieces}

-- the side k steps after s
abbrev pub step_on : List ℕ → ℕ → ℕ → ℕ
step_on nexts s zero = s
step_on nexts s (suc k) = slice_index nexts (step_on nexts s k)

-- Each side is followed by one that begins at its end, and different sides by different ones.
pub record AreFollowing (es : List Edge) (nexts : List ℕ) : Type 0 where
  pub one_each : length nexts ≡ 2 * length es
  pub inside : (s : ℕ) → s < length nexts → slice_index nexts s < length nexts
  pub only : (s t : ℕ) → s < length nexts → t < length nexts → slice_index nexts s ≡ slice_index nexts t → s ≡ t
  pub on : (s : ℕ) → s < length nexts → side_start es (slice_index nexts s) ≡ side_end es s

-- with a side the one before it is done
abbrev pub AreClosed : List ℕ → List Bool → Type 0
AreClosed nexts done = (t : ℕ) → t < length nexts → slice_index_or done t false ≡ true → (s : ℕ) × (s < length nexts) × (slice_index_or done s false ≡ true) × (slice_index nexts s ≡ t)

-- The first m sides from `first` on: they are different, were not done before and are done now, and their starts are
-- appended.
pub record IsWay (es : List Edge) (nexts : List ℕ) (first : ℕ) (before : List Bool) (old : List ℕ) (m : ℕ) (done : List Bool) (starts : List ℕ) : Type 0 where
  pub one_each : length done ≡ length nexts
  pub fresh : (k : ℕ) → k < m → slice_index_or before (step_on nexts first k) false ≡ false
  pub apart : (i j : ℕ) → i < j → j < m → step_on nexts first i ≢ step_on nexts first j
  pub appended : starts ≡ old ++ map (λ k. side_start es (step_on nexts first k)) (range_with_len 0 m)
  pub only : (t : ℕ) → slice_index_or done t false ≡ true → (slice_index_or before t false ≡ true) ⊎ ((k : ℕ) × (k < m) × (step_on nexts first k ≡ t))
  pub kept : (t : ℕ) → slice_index_or before t false ≡ true → slice_index_or done t false ≡ true
  pub marked : (k : ℕ) → k < m → slice_index_or done (step_on nexts first k) false ≡ true

-- A whole round: the way leads back to its first side.
pub record IsRound (es : List Edge) (nexts : List ℕ) (first : ℕ) (before : List Bool) (old : List ℕ) (done : List Bool) (starts : List ℕ) : Type 0 where
  pub count : ℕ
  pub some : 0 < count
  pub back : step_on nexts first count ≡ first
  pub way : IsWay es nexts first before old count done starts

-- A cycle of sides by their starts, which begins at its least side, that of the edge e forward.
pub record IsCycleFrom (es : List Edge) (nexts : List ℕ) (n : ℕ) (cycle : List ℕ) : Type 0 where
  pub edge : ℕ
  pub count : ℕ
  pub edge_in : edge < n
  pub some : 0 < count
  pub back : step_on nexts (2 * edge) count ≡ 2 * edge
  pub is : cycle ≡ map (λ k. side_start es (step_on nexts (2 * edge) k)) (range_with_len 0 count)
  pub first : (round_at cycle 0 ≡ (nth_edge es edge).a) × (round_at cycle 1 ≡ (nth_edge es edge).b)
  pub least : (k : ℕ) → 0 < k → k < count → SidePrecedes (round_at cycle 0) (round_at cycle 1) (round_at cycle k) (round_at cycle (k + 1))

-- The faces that begin at one of the first n edges.
pub record AreTraced (es : List Edge) (nexts : List ℕ) (n : ℕ) (rounds : Rounds) : Type 0 where
  pub one_each : length rounds.done.items ≡ length nexts
  pub closed : AreClosed nexts rounds.done.items
  pub forward : (e : ℕ) → e < n → slice_index_or rounds.done.items (2 * e) false ≡ true
  pub bounds : AreBounds rounds.starts.items rounds.bounds.items
  pub last : slice_index rounds.bounds.items (length rounds.bounds.items - 1) ≡ length rounds.starts.items
  pub few : length rounds.bounds.items ≤ n + 1
  pub each : All (IsCycleFrom es nexts n) (pieces rounds.starts.items rounds.bounds.items)
  pub ascending : AllPairs (λ c d. SidePrecedes (round_at c 0) (round_at c 1) (round_at d 0) (round_at d 1)) (pieces rounds.starts.items rounds.bounds.items)
  pub covered : (t : ℕ) → t < length nexts → slice_index_or rounds.done.items t false ≡ true
      → Any (λ c. HasRoundSide c (side_start es t) (side_end es t)) (pieces rounds.starts.items rounds.bounds.items)

-- no face so far
pub record IsStart (sides : ℕ) (rounds : Rounds) : Type 0 where
  pub done : rounds.done.items ≡ replicate sides false
  pub starts : rounds.starts.items ≡ []
  pub bounds : rounds.bounds.items ≡ 0 ∷ []
