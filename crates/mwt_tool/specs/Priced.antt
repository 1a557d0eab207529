-- The live edges of a report with their prices, and what stands on them.
use Rattle.std.specs.Prelude.{◌≡◌, ◌↔◌, Bool, List, All, Contains}
use Rattle.exact_predicates.specs.declared.edge.Edge.{Edge}
use Rattle.lmt_network.specs.Flags.{live_edges}
use Rattle.lmt_network.specs.Live.{IsHullEdge}
use Rattle.lmt_network.specs.Network.{NetworkParts}
use Rattle.lmt_network.specs.Prices.{IsFeasible, IsTight, bound}
use Rattle.lmt_network.specs.Skeleton.{AreSkeleton}
use Rattle.price_ascent.specs.declared.entry.PriceEntry.{PriceEntry}
use Rattle.price_ascent.specs.Belonging.{AreEntriesOf, IsWithinRanges}
use Rattle.price_ascent.specs.Entries.{anchored_edges, live_of, prices_of}
use Rattle.mwt_tool.specs.declared.priced.Priced.{Priced}
use Rattle.mwt_tool.specs.PriceLines.{price_lines}

-- Prices of the live edges that a report may print: they are within its ranges, feasible and tight, and the edges of the
-- skeleton have anchors on both sides.
pub record HavePrices (n : NetworkParts) (flags : List Bool) (skeleton : List Edge) (entries : List PriceEntry) : Type 0 where
  pub skeleton_is : AreSkeleton n.points (live_edges n flags) skeleton
  pub kept : AreEntriesOf n entries
  pub live : live_of entries ≡ flags
  pub anchored : (e : Edge) → Contains (anchored_edges n entries) e ↔ (Contains skeleton e × (¬ IsHullEdge n.hull e))
  pub within : All (IsWithinRanges n.hull) (prices_of n entries)
  pub feasible : IsFeasible n.points n.hull (prices_of n entries)
  pub tight : IsTight n.points n.hull (anchored_edges n entries) (prices_of n entries)

-- The lines of these prices, the skeleton, and the bound.
pub record ArePriced (n : NetworkParts) (flags : List Bool) (entries : List PriceEntry) (part : Priced) : Type 0 where
  pub prices : HavePrices n flags part.skeleton entries
  pub lines : part.live ≡ price_lines n entries
  pub bound_is : part.bound ≡ bound n.hull (prices_of n entries)
