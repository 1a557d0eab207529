-- An ascent gives each live edge one price, and each side one anchor.
use Rattle.std.specs.Prelude.{◌≡◌, ℕ, Bool, List, length, Contains}
use Rattle.exact_predicates.specs.declared.edge.Edge.{Edge}
use Rattle.lmt_network.specs.Flags.{live_numbers}
use Rattle.lmt_network.specs.Live.{IsHullEdge}
use Rattle.lmt_network.specs.Network.{IsNetwork, NetworkParts}
use Rattle.lmt_network.specs.PriceTables.{PriceTable, table_prices}
use Rattle.price_ascent.specs.Ascent.{IsAscent}

-- Two ascents with the same anchored inner edges and number of sweeps give the same prices of live edges.
abbrev pub OneAscent : Type 0
OneAscent =
    (n : NetworkParts) (live : List Bool) (anchored : List Edge) (sweeps : ℕ) (first second : PriceTable)
    → IsNetwork n → length live ≡ length n.edges → ((e : Edge) → Contains anchored e → ¬ IsHullEdge n.hull e)
    → IsAscent n live anchored sweeps first → IsAscent n live anchored sweeps second
    → table_prices n first (live_numbers live) ≡ table_prices n second (live_numbers live)
