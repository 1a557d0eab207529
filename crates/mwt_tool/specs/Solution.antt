-- The triangulation of a report and its prices, by the method that found them.
use Rattle.std.specs.Prelude.{◌≡◌, ◌↔◌, ℕ, Bool, List, length, pos}
use Rattle.std.specs.List.Sorted.{IsSorted}
use Rattle.exact_predicates.specs.declared.diamond.Diamond.{Diamond}
use Rattle.exact_predicates.specs.declared.edge.Edge.{Edge}
use Rattle.exact_predicates.specs.declared.tri.Tri.{Tri}
use Rattle.exact_predicates.specs.Flip.{IsFlipMinimal}
use Rattle.exact_predicates.specs.Length.{IsNotLonger}
use Rattle.exact_predicates.specs.Triangulation.{IsTriangulation, edges, tri_cmp}
use Rattle.length_enclosure.specs.Enclosure.{lo}
use Rattle.lmt_network.specs.Edges.{HasEdgesIn}
use Rattle.lmt_network.specs.Flags.{live_edges, live_numbers}
use Rattle.lmt_network.specs.Live.{IsLive}
use Rattle.lmt_network.specs.Network.{NetworkParts}
use Rattle.lmt_network.specs.Numbers.{AreLive}
use Rattle.lmt_network.specs.Prices.{bound}
use Rattle.flip_claims.specs.Descent.{IsDescendant}
use Rattle.skeleton_faces.specs.Faces.{AreFaces}
use Rattle.face_optimum.specs.Decomposition.{Decomposes, bounded_faces}
use Rattle.face_optimum.specs.FaceRule.{FollowsFaceRule}
use Rattle.face_optimum.specs.Sites.{most_places}
use Rattle.price_ascent.specs.Ascent.{IsAscent}
use Rattle.price_ascent.specs.Belonging.{BelongTo}
use Rattle.price_ascent.specs.Entries.{anchored_edges, prices_of, table_of}
use Rattle.cert_text.specs.declared.report.Method.{Method}
use Rattle.cert_text.specs.declared.report.Method.TheVariants.{Faces, Flips}
use Rattle.mwt_tool.specs.declared.solution.Solution.{Solution}
use Rattle.mwt_tool.specs.Priced.{HavePrices}

-- the flags tell which edges of the network are live
pub record HasLiveFlags (n : NetworkParts) (flags : List Bool) : Type 0 where
  pub one_each : length flags ≡ length n.edges
  pub numbers : AreLive n (live_numbers flags)
  pub diamond : Diamond
  pub edges : IsLive n.points n.hull diamond (live_edges n flags)

-- The method is faces exactly where the skeleton decomposes.
pub record IsDecided (n : NetworkParts) (live skeleton : List Edge) (method : Method) : Type 0 where
  pub faces : List (List ℕ)
  pub faces_are : AreFaces n.points skeleton faces
  pub exactly : (method ≡ Faces) ↔ Decomposes n.points n.hull live skeleton faces most_places

-- With the method faces the edges of the triangulation are live, the bound is the lower end of its length, and triangles and
-- prices are those of the rule on these faces.
pub record IsOptimum (n : NetworkParts) (live skeleton : List Edge) (faces : List (List ℕ)) (s : Solution) : Type 0 where
  pub edges_live : HasEdgesIn n.hull s.tris live
  pub rule : FollowsFaceRule n.points n.hull live skeleton (bounded_faces n.hull faces) s.tris (prices_of n s.prices)
  pub bound_is : bound n.hull (prices_of n s.prices) ≡ pos (lo n.points (edges n.hull s.tris))

-- With the method flips the triangulation is the descendant of the sweep's: no flip makes it shorter, and it is not longer.
-- The prices are those of the ascent.
pub record IsDescent (n : NetworkParts) (flags : List Bool) (first : List Tri) (sweeps : ℕ) (s : Solution) : Type 0 where
  pub descendant : IsDescendant n.points n.hull first s.tris
  pub minimal : IsFlipMinimal n.points n.hull s.tris
  pub not_longer : IsNotLonger n.points (edges n.hull s.tris) (edges n.hull first)
  pub ascent : IsAscent n flags (anchored_edges n s.prices) sweeps (table_of s.prices)
  pub belong : BelongTo n s.prices

-- A triangulation with prices that bound all others.
pub record IsSolution (n : NetworkParts) (flags : List Bool) (skeleton : List Edge) (first : List Tri) (sweeps : ℕ) (s : Solution) : Type 0 where
  pub priced : HavePrices n flags skeleton s.prices
  pub triangulation : IsTriangulation n.points n.hull s.tris
  pub ascending : IsSorted tri_cmp s.tris
  pub decided : IsDecided n (live_edges n flags) skeleton s.method
  pub by_faces : s.method ≡ Faces → IsOptimum n (live_edges n flags) skeleton decided.faces s
  pub by_flips : s.method ≡ Flips → IsDescent n flags first sweeps s
