-- What one look at each pair of each edge says of ranks.
use Rattle.std.specs.Prelude.{◌≡◌, ◌⊎◌, ℕ, ◌<◌, List, slice_index}
use Rattle.lmt_network.specs.Derivation.{IsDerived}
use Rattle.lmt_network.specs.Network.{NetworkParts}
use Rattle.lmt_network.specs.Numbers.{IsHullNumber, IsMinimalPair, IsSideOf}

-- a side of the triangle t has a rank above 0 and below m
abbrev pub HasLowerSide : NetworkParts → List ℕ → ℕ → ℕ → Type 0
HasLowerSide n ranks m t = (f : ℕ) × IsSideOf n t f × (0 < slice_index ranks f) × (slice_index ranks f < m)

-- each locally minimal pair of the edge e with l on its left has a side with a rank above 0 and below that of e
abbrev pub IsDerivedAt : NetworkParts → List ℕ → ℕ → ℕ → Type 0
IsDerivedAt n ranks e l =
    (r : ℕ) → IsMinimalPair n e l r → HasLowerSide n ranks (slice_index ranks e) l ⊎ HasLowerSide n ranks (slice_index ranks e) r

-- the rank of the edge e is 0, or e is no hull edge and is derived
pub record HasGoodRank (n : NetworkParts) (ranks : List ℕ) (e : ℕ) : Type 0 where
  pub hull : IsHullNumber n e → slice_index ranks e ≡ 0
  pub derived : 0 < slice_index ranks e → IsDerived n ranks e
