-- What the loads of an examination tell of an edge: it asks for sides of triangles at the edge, finds some of them live, and
-- has then seen some of them killed. Which edges a load finds live, its table says.
use Rattle.std.specs.Prelude.{◌≢◌, ◌⊎◌, ℕ, List, Any, Contains}
use Rattle.lmt_network.specs.Network.{NetworkParts}
use Rattle.lmt_network.specs.Numbers.{IsMinimalPair, IsOnLeft, IsOnRight, IsSideOf, IsOtherSide}

-- a load that asks for an edge, and the value of a word that it gave
pub record Asked : Type 0 where
  pub edge : ℕ
  pub value : ℕ

abbrev pub asked : ℕ → ℕ → Asked
asked e x = record { edge = e; value = x }

-- each load is for a side, not e, of the triangle t
abbrev pub AskForSidesOf : NetworkParts → ℕ → ℕ → List Asked → Type 0
AskForSidesOf n e t ls = (l : Asked) → Contains ls l → (l.edge ≢ e) × IsSideOf n t l.edge

-- each load is for a side, not e, of a triangle on the left or on the right of e
abbrev pub AskForSides : NetworkParts → ℕ → List Asked → Type 0
AskForSides n e ls = (l : Asked) → Contains ls l → (l.edge ≢ e) × ((t : ℕ) × (IsOnLeft n e t ⊎ IsOnRight n e t) × IsSideOf n t l.edge)

-- each side of the triangle t but e is among the edges found live
abbrev pub HasLiveSides : NetworkParts → ℕ → ℕ → (ℕ → Type 0) → Type 0
HasLiveSides n e t live = (f : ℕ) → IsSideOf n t f → f ≢ e → live f

-- a side of the triangle t other than e is among the edges seen killed
abbrev pub HasKilledSide : NetworkParts → ℕ → ℕ → List ℕ → Type 0
HasKilledSide n e t seen = (f : ℕ) × (f ≢ e) × IsSideOf n t f × Contains seen f

-- e is locally minimal between l and r, and each other side of both is among the edges found live
abbrev pub IsLivePair : NetworkParts → ℕ → ℕ → ℕ → (ℕ → Type 0) → Type 0
IsLivePair n e l r live = IsMinimalPair n e l r × ((f : ℕ) → IsOtherSide n e l r f → live f)

-- each locally minimal pair of e with l on its left has another side among the edges seen killed
abbrev pub IsBrokenWith : NetworkParts → ℕ → ℕ → List ℕ → Type 0
IsBrokenWith n e l seen = (r : ℕ) → IsMinimalPair n e l r → Any (IsOtherSide n e l r) seen
