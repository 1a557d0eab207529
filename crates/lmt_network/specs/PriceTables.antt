-- Prices by the numbers of a network's edges.
use Rattle.std.specs.Prelude.{◌≡◌, ℕ, ◌<◌, ◌↔◌, Bool, List, length, map, All, Contains, slice_index_or, ℤ, pos}
use Rattle.exact_predicates.specs.declared.tri.Tri.{Tri}
use Rattle.lmt_network.specs.Flags.{live_numbers, live_edges}
use Rattle.lmt_network.specs.Network.{NetworkParts, IsNetwork, edge_at, tri_at}
use Rattle.lmt_network.specs.Numbers.{IsNumberOf, IsSideOf}
use Rattle.lmt_network.specs.Prices.{Priced, priced, priced_edges, IsLiveTriangle}

-- of each edge, by its number, its value and the anchors of its left and of its right side
pub record PriceTable : Type 0 where
  pub values : List ℤ
  pub lefts : List ℤ
  pub rights : List ℤ

-- what a table says of an edge
abbrev pub entry_at : NetworkParts → PriceTable → ℕ → Priced
entry_at n table e =
    record {
      edge = edge_at n e;
      value = slice_index_or table.values e (pos 0);
      left = slice_index_or table.lefts e (pos 0);
      right = slice_index_or table.rights e (pos 0);
    }

-- the prices of the live edges
abbrev pub table_prices : NetworkParts → PriceTable → List ℕ → List Priced
table_prices n table live = map (entry_at n table) live

-- what the prices of a table say by number: of each live edge its entry; and the live triangles are those of the network
-- whose sides are live
pub record IsByNumber (n : NetworkParts) (table : PriceTable) (live : List ℕ) : Type 0 where
  pub entries : (e u v : ℕ) → Contains live e → IsNumberOf n u v e → priced (table_prices n table live) u v ≡ entry_at n table e
  pub triangles : (t : ℕ) → t < length n.tris
      → IsLiveTriangle n.points (table_prices n table live) (tri_at n t) ↔ ((f : ℕ) → IsSideOf n t f → Contains live f)
  pub all : (t : Tri) → IsLiveTriangle n.points (table_prices n table live) t → Contains n.tris t

abbrev pub TablesAreByNumber : Type 0
TablesAreByNumber =
    (n : NetworkParts) (table : PriceTable) (live : List ℕ)
    → IsNetwork n → All (λ e. e < length n.edges) live → IsByNumber n table live

-- The edges priced are the live ones, in their order.
abbrev pub TablesPriceLiveEdges : Type 0
TablesPriceLiveEdges =
    (n : NetworkParts) (table : PriceTable) (flags : List Bool)
    → length flags ≡ length n.edges → priced_edges (table_prices n table (live_numbers flags)) ≡ live_edges n flags
