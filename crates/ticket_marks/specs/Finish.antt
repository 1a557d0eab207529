-- Ranks while plain elimination goes on with them.
use Rattle.std.specs.Prelude.{◌≡◌, ◌==◌, ℕ, ◌+◌, ◌*◌, ◌<◌, ◌≤◌, List, length, map, slice_index, count_by}
use Rattle.lmt_network.specs.Derivation.{IsDerivation}
use Rattle.lmt_network.specs.Flags.{live_numbers}
use Rattle.lmt_network.specs.Network.{NetworkParts}
use Rattle.lmt_network.specs.Numbers.{IsMinimalPair, IsSideOf, IsOtherSide}

-- the edges with the rank 0, ascending
abbrev pub unranked : List ℕ → List ℕ
unranked ranks = live_numbers (map (λ m. m == 0) ranks)

-- the greatest rank after elimination: the tickets may go up to 65 times the number of edges, and each edge that is left
-- may take one more
abbrev pub most_ranks : NetworkParts → ℕ
most_ranks n = 66 * length n.edges

-- how many edges have the rank 0
abbrev pub left_over : List ℕ → ℕ
left_over ranks = count_by (λ m. m == 0) ranks

-- a side of the triangle t has a rank above 0
abbrev pub HasRankedSide : NetworkParts → List ℕ → ℕ → Type 0
HasRankedSide n ranks t = (f : ℕ) × IsSideOf n t f × (0 < slice_index ranks f)

-- each side of the triangle t has the rank 0
abbrev pub HasUnrankedSides : NetworkParts → List ℕ → ℕ → Type 0
HasUnrankedSides n ranks t = (f : ℕ) → IsSideOf n t f → slice_index ranks f ≡ 0

-- each locally minimal pair of the edge e with l on its left has another side with a rank above 0
abbrev pub IsBrokenAt : NetworkParts → List ℕ → ℕ → ℕ → Type 0
IsBrokenAt n ranks e l = (r : ℕ) → IsMinimalPair n e l r → (f : ℕ) × IsOtherSide n e l r f × (0 < slice_index ranks f)

-- Ranks that are a derivation, none above `last`, with room for one more for each edge that has 0.
pub record AreRanksUpTo (n : NetworkParts) (ranks : List ℕ) (last : ℕ) : Type 0 where
  pub one_each : length ranks ≡ length n.edges
  pub derivation : IsDerivation n ranks
  pub low : (e : ℕ) → slice_index ranks e ≤ last
  pub room : last + left_over ranks ≤ most_ranks n

-- ranks above 0 stand
abbrev pub RanksStand : List ℕ → List ℕ → Type 0
RanksStand before after = (e : ℕ) → 0 < slice_index before e → slice_index after e ≡ slice_index before e
