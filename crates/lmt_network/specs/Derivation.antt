-- Ranks that explain an elimination. An edge with the rank m is killed by edges with ranks from 1 to m - 1, so whoever goes
-- through the edges once can see that no closed list has it.
use Rattle.std.specs.Prelude.{◌≡◌, ℕ, ◌<◌, List, length, slice_index, Contains}
use Rattle.exact_predicates.specs.declared.diamond.Diamond.{Diamond}
use Rattle.exact_predicates.specs.declared.edge.Edge.{Edge}
use Rattle.exact_predicates.specs.Candidates.{AreCandidates}
use Rattle.lmt_network.specs.Live.{IsClosed}
use Rattle.lmt_network.specs.Network.{NetworkParts, IsNetwork, edge_at}
use Rattle.lmt_network.specs.Numbers.{IsHullNumber, IsMinimalPair, IsOtherSide, IsDead}

-- each locally minimal pair of the edge e has another side with a rank above 0 and below that of e
abbrev pub IsDerived : NetworkParts → List ℕ → ℕ → Type 0
IsDerived n ranks e =
    (l r : ℕ) → IsMinimalPair n e l r
    → (f : ℕ) × IsOtherSide n e l r f × (0 < slice_index ranks f) × (slice_index ranks f < slice_index ranks e)

-- The ranks are a derivation: each hull edge has 0, and each edge with a rank above 0 is derived.
pub record IsDerivation (n : NetworkParts) (ranks : List ℕ) : Type 0 where
  pub hull : (e : ℕ) → e < length n.edges → IsHullNumber n e → slice_index ranks e ≡ 0
  pub derived : (e : ℕ) → e < length n.edges → 0 < slice_index ranks e → IsDerived n ranks e

-- Where ranks are a derivation, an edge with a rank above 0 is dead,
abbrev pub RankedIsDead : Type 0
RankedIsDead =
    (n : NetworkParts) (ranks : List ℕ) (e : ℕ)
    → IsDerivation n ranks → e < length n.edges → 0 < slice_index ranks e → IsDead n e

-- so no closed list holds it.
abbrev pub RankedIsInNone : Type 0
RankedIsInNone =
    (n : NetworkParts) (diamond : Diamond) (ranks : List ℕ) (e : ℕ) (fs : List Edge)
    → IsNetwork n → AreCandidates n.points n.hull diamond n.edges
    → IsDerivation n ranks → e < length n.edges → 0 < slice_index ranks e
    → IsClosed n.points n.hull diamond fs → ¬ Contains fs (edge_at n e)
