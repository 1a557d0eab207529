-- The laws on closed edges by their numbers, and what they say of closed lists of edges.
use Rattle.std.specs.Prelude.{◌≡◌, ℕ, ◌<◌, ◌↔◌, Bool, List, length, Contains}
use Rattle.exact_predicates.specs.declared.diamond.Diamond.{Diamond}
use Rattle.exact_predicates.specs.declared.edge.Edge.{Edge}
use Rattle.exact_predicates.specs.Candidates.{AreCandidates}
use Rattle.lmt_network.specs.Flags.{live_numbers, live_edges}
use Rattle.lmt_network.specs.Live.{IsClosed, IsLive}
use Rattle.lmt_network.specs.Network.{NetworkParts, IsNetwork, edge_at}
use Rattle.lmt_network.specs.Numbers.{IsHullNumber, AreLive, IsDead, IsBroken}

-- An edge that is no hull edge is dead, where each of its locally minimal pairs has a dead side.
abbrev pub BrokenIsDead : Type 0
BrokenIsDead =
    (n : NetworkParts) (seen : List ℕ) (e : ℕ)
    → ¬ IsHullNumber n e → IsBroken n seen e → ((f : ℕ) → Contains seen f → IsDead n f) → IsDead n e

-- A hull edge is not dead.
abbrev pub HullIsNotDead : Type 0
HullIsNotDead = (n : NetworkParts) (e : ℕ) → e < length n.edges → IsHullNumber n e → ¬ IsDead n e

-- The live edges are the same in each list of them.
abbrev pub LiveNumbersAreOne : Type 0
LiveNumbersAreOne = (n : NetworkParts) (es fs : List ℕ) → AreLive n es → AreLive n fs → (e : ℕ) → Contains es e ↔ Contains fs e

-- A dead edge is in no closed list.
abbrev pub DeadIsInNone : Type 0
DeadIsInNone =
    (n : NetworkParts) (diamond : Diamond) (e : ℕ) (fs : List Edge)
    → IsNetwork n → AreCandidates n.points n.hull diamond n.edges → e < length n.edges → IsDead n e
    → IsClosed n.points n.hull diamond fs → ¬ Contains fs (edge_at n e)

-- Flags that tell the live numbers pick the live list.
abbrev pub LiveNumbersAreLive : Type 0
LiveNumbersAreLive =
    (n : NetworkParts) (diamond : Diamond) (flags : List Bool)
    → IsNetwork n → AreCandidates n.points n.hull diamond n.edges → length flags ≡ length n.edges
    → AreLive n (live_numbers flags) → IsLive n.points n.hull diamond (live_edges n flags)
