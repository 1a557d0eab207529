-- Faces in two tables: the starts of all sides, face after face, and where each face begins and the last one ends.
use Rattle.std.specs.Prelude.{ℕ, ◌+◌, ◌^◌, ◌<◌, ◌≤◌, List, [], ◌∷◌, length, slice_index, slice_range}
use Rattle.skeleton_faces.specs.declared.face_list.Faces.TheInside.{Inside}

-- the pieces of the list that begin at `from` and end at each of the bounds
abbrev pub cut : List ℕ → ℕ → List ℕ → List (List ℕ)
cut xs from [] = []
cut xs from (to ∷ bounds) = slice_range xs from to ∷ cut xs to bounds

-- the pieces between the bounds
abbrev pub pieces : List ℕ → List ℕ → List (List ℕ)
pieces xs [] = []
pieces xs (from ∷ bounds) = cut xs from bounds

-- the faces of the tables
abbrev pub cycles_of : Inside → List (List ℕ)
cycles_of f = pieces f.starts.items f.bounds.items

-- The bounds rise up to the end of the list.
pub record AreBounds (xs bounds : List ℕ) : Type 0 where
  pub some : 0 < length bounds
  pub rise : (k : ℕ) → k + 1 < length bounds → slice_index bounds k ≤ slice_index bounds (k + 1)
  pub within : (k : ℕ) → k < length bounds → slice_index bounds k ≤ length xs
  pub few : length bounds ≤ 2 ^ 32

-- what the tables of faces keep
abbrev pub HaveBounds : Inside → Type 0
HaveBounds f = AreBounds f.starts.items f.bounds.items
