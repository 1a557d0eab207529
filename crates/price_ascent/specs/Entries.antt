-- What is kept of each edge of a network, by its number, and the prices that it gives.
use Rattle.std.specs.Prelude.{ℕ, Bool, false, List, map, ℤ, pos, slice_index_or}
use Rattle.exact_predicates.specs.declared.edge.Edge.{Edge}
use Rattle.lmt_network.specs.Flags.{live_edges, live_numbers}
use Rattle.lmt_network.specs.Network.{NetworkParts, edge_at}
use Rattle.lmt_network.specs.PriceTables.{PriceTable, table_prices}
use Rattle.lmt_network.specs.Prices.{Priced}
use Rattle.price_ascent.specs.declared.entry.PriceEntry.{PriceEntry}

-- what stands for an edge past the last
abbrev pub no_entry : PriceEntry
no_entry = record { value = pos 0; left = pos 0; right = pos 0; up = pos 0; down = pos 0; live = false; anchored = false }

-- what is kept of the edge e
abbrev pub entry : List PriceEntry → ℕ → PriceEntry
entry es e = slice_index_or es e no_entry

abbrev pub table_of : List PriceEntry → PriceTable
table_of es = record { values = map (λ p. p.value) es; lefts = map (λ p. p.left) es; rights = map (λ p. p.right) es }

-- which edges are live
abbrev pub live_of : List PriceEntry → List Bool
live_of es = map (λ p. p.live) es

-- the prices of the live edges
abbrev pub prices_of : NetworkParts → List PriceEntry → List Priced
prices_of n es = table_prices n (table_of es) (live_numbers (live_of es))

-- the inner edges with anchors, ascending
abbrev pub anchored_edges : NetworkParts → List PriceEntry → List Edge
anchored_edges n es = live_edges n (map (λ p. p.anchored) es)

-- the edge e with these amounts
abbrev pub with_amounts : NetworkParts → ℕ → ℤ → ℤ → ℤ → Priced
with_amounts n e value left right = record { edge = edge_at n e; value = value; left = left; right = right }
