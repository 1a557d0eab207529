-- One truth value for each edge: whether it is live.
use Rattle.std.specs.Prelude.{ℕ, List, Bool, length}
use Rattle.std.specs.List.{items_where_true, range_with_len}
use Rattle.exact_predicates.specs.declared.edge.Edge.{Edge}
use Rattle.lmt_network.specs.Network.{NetworkParts}

-- the numbers of the live edges, ascending
abbrev pub live_numbers : List Bool → List ℕ
live_numbers flags = items_where_true flags (range_with_len 0 (length flags))

-- the live edges of a network, in their order
abbrev pub live_edges : NetworkParts → List Bool → List Edge
live_edges n flags = items_where_true flags n.edges
