-- What is answered where the skeleton decomposes: the best triangulation with live edges, and prices that prove that no other
-- one is shorter in whole millionths.
use Rattle.std.specs.Prelude.{◌≡◌, ◌↔◌, ℕ, List, Bool, All, Contains, pos}
use Rattle.std.specs.List.Sorted.{IsSorted}
use Rattle.exact_predicates.specs.declared.edge.Edge.{Edge}
use Rattle.exact_predicates.specs.declared.tri.Tri.{Tri}
use Rattle.exact_predicates.specs.Triangulation.{IsTriangulation, edges, tri_cmp}
use Rattle.length_enclosure.specs.Enclosure.{lo}
use Rattle.lmt_network.specs.Edges.{HasEdgesIn}
use Rattle.lmt_network.specs.Flags.{live_edges}
use Rattle.lmt_network.specs.Live.{IsHullEdge}
use Rattle.lmt_network.specs.Network.{NetworkParts}
use Rattle.lmt_network.specs.Prices.{IsFeasible, IsTight, bound}
use Rattle.price_ascent.specs.declared.entry.PriceEntry.{PriceEntry}
use Rattle.price_ascent.specs.Belonging.{AreEntriesOf, IsWithinRanges}
use Rattle.price_ascent.specs.Entries.{anchored_edges, live_of, prices_of}
use Rattle.face_optimum.specs.FaceRule.{FollowsFaceRule}

-- the anchored inner edges are those of the skeleton that are not on the hull
abbrev pub AreInnerSkeleton : List ℕ → List Edge → List Edge → Type 0
AreInnerSkeleton hull skeleton anchored = (e : Edge) → Contains anchored e ↔ (Contains skeleton e × (¬ IsHullEdge hull e))

-- A triangulation whose edges are live, its triangles ascending; and prices of the live edges, with anchors on both sides of
-- the inner edges of the skeleton, within the ranges of a report, feasible and tight, whose bound is the length of the
-- triangulation in whole millionths. Both follow the rule on these faces.
pub record IsFaceOptimum (n : NetworkParts) (flags : List Bool) (skeleton : List Edge) (faces : List (List ℕ)) (tris : List Tri) (prices : List PriceEntry) : Type 0 where
  pub triangulation : IsTriangulation n.points n.hull tris
  pub edges_live : HasEdgesIn n.hull tris (live_edges n flags)
  pub ascending : IsSorted tri_cmp tris
  pub entries : AreEntriesOf n prices
  pub live : live_of prices ≡ flags
  pub anchored : AreInnerSkeleton n.hull skeleton (anchored_edges n prices)
  pub within : All (IsWithinRanges n.hull) (prices_of n prices)
  pub feasible : IsFeasible n.points n.hull (prices_of n prices)
  pub tight : IsTight n.points n.hull (anchored_edges n prices) (prices_of n prices)
  pub bound_is : bound n.hull (prices_of n prices) ≡ pos (lo n.points (edges n.hull tris))
  pub rule : FollowsFaceRule n.points n.hull (live_edges n flags) skeleton faces tris (prices_of n prices)
