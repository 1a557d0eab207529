-- What `solve` answers: the report of a file.
use Rattle.std.specs.Prelude.{◌≡◌, ◌↔◌, ℕ, ⊤, Bool, List, length, All, pos, ◌≤ℤ◌}
use Rattle.exact_predicates.specs.declared.diamond.Diamond.{Diamond}
use Rattle.exact_predicates.specs.declared.diamond.Diamond.TheVariants.{Off, On}
use Rattle.exact_predicates.specs.declared.point.Point.{Point}
use Rattle.exact_predicates.specs.declared.tri.Tri.{Tri}
use Rattle.exact_predicates.specs.Length.{IsAtLeast, IsAtMost, IsNotLonger}
use Rattle.exact_predicates.specs.Triangulation.{IsTriangulation, edges}
use Rattle.length_enclosure.specs.Enclosure.{lo}
use Rattle.flip_claims.specs.Descent.{IsDescendant}
use Rattle.hull_sweep.specs.First.{IsFirst}
use Rattle.lmt_network.specs.Bounds.{Exclusion, NoneIsShorter}
use Rattle.lmt_network.specs.Edges.{HasCandidateEdges, HasEdgesIn, IsEdgeOf}
use Rattle.lmt_network.specs.FlipMinimal.{IsFlipMinimalTriangulation}
use Rattle.lmt_network.specs.Flags.{live_numbers}
use Rattle.lmt_network.specs.Network.{NetworkParts}
use Rattle.lmt_network.specs.PriceTables.{PriceTable, table_prices}
use Rattle.price_ascent.specs.Ascent.{IsAscent}
use Rattle.skeleton_faces.specs.Faces.{AreFaces}
use Rattle.face_optimum.specs.Decomposition.{Decomposes, bounded_faces}
use Rattle.face_optimum.specs.FaceRule.{FollowsFaceRule}
use Rattle.face_optimum.specs.Sites.{most_places}
use Rattle.cert_text.specs.declared.report.Method.TheVariants.{Faces, Flips}
use Rattle.cert_text.specs.declared.report.Report.{Report}
use Rattle.dual_checker.specs.Elimination.{IsElimination}
use Rattle.dual_checker.specs.GoodReport.{IsGoodReport, anchored_of, live_edges_of, prices_of}
use Rattle.tsplib_points.specs.declared.file.File.{File}
use Rattle.mwt_tool.specs.declared.solver.Settings.{Settings}

-- the length of the report's triangulation lies between its two ends, at every scale
pub record EnclosesLength (r : Report) : Type 0 where
  pub at_least : IsAtLeast r.points (edges r.hull r.tris) (pos r.lo)
  pub at_most : IsAtMost r.points (edges r.hull r.tris) r.hi

-- What the bound rests on besides the proofs: nothing with the diamond test off, and with it on the exclusion premise.
abbrev pub Premise : List Point → List ℕ → Diamond → Type 0
Premise ps hull Off = ⊤
Premise ps hull On = Exclusion ps hull On

-- A report that is good, and so certifies: the length of its triangulation lies between the two printed ends, and, under
-- the premise, no triangulation of the points is shorter than the printed bound. Of the triangulations with live edges none
-- is shorter than that, even where each edge is rounded down. Each flip-minimal triangulation of candidate edges has the
-- skeleton. With the method faces the bound is the lower end of the length: then no triangulation is shorter than that end,
-- under the premise, and the printed one is not longer than the upper end.
pub record IsCertified (r : Report) : Type 0 where
  pub good : IsGoodReport r
  pub encloses : EnclosesLength r
  pub none_is_shorter : Premise r.points r.hull r.diamond → NoneIsShorter r.points r.hull r.bound
  pub none_live_is_shorter : (tris : List Tri) → IsTriangulation r.points r.hull tris → HasEdgesIn r.hull tris (live_edges_of r)
      → r.bound ≤ℤ pos (lo r.points (edges r.hull tris))
  pub skeleton_in : (tris : List Tri) → IsFlipMinimalTriangulation r.points r.hull tris → HasCandidateEdges r.points r.hull r.diamond tris
      → All (IsEdgeOf r.hull tris) r.skeleton
  pub optimal : r.method ≡ Faces → r.bound ≡ pos r.lo

-- The method is faces exactly where the skeleton of the live edges decomposes, with at most 128 corners to a face.
pub record HasDecidedMethod (r : Report) : Type 0 where
  pub faces : List (List ℕ)
  pub faces_are : AreFaces r.points r.skeleton faces
  pub exactly : (r.method ≡ Faces) ↔ Decomposes r.points r.hull (live_edges_of r) r.skeleton faces most_places

-- The prices and anchors are those of the ascent with so many sweeps.
pub record HasAscentPrices (sweeps : ℕ) (r : Report) : Type 0 where
  pub net : NetworkParts
  pub flags : List Bool
  pub table : PriceTable
  pub elimination : IsElimination r.points r.hull r.diamond net flags
  pub ascent : IsAscent net flags (anchored_of r) sweeps table
  pub prices : prices_of r ≡ table_prices net table (live_numbers flags)

-- The triangulation is the descendant of the first one, which the sweep's rule chooses: rounds of claimed flips lead from that to
-- it. So it is not longer than that.
pub record IsShortenedSweep (r : Report) : Type 0 where
  pub first : List Tri
  pub first_is : IsFirst r.points r.hull first
  pub descendant : IsDescendant r.points r.hull first r.tris
  pub not_longer : IsNotLonger r.points (edges r.hull r.tris) (edges r.hull first)

-- With the method faces each edge of the triangulation is live, and the triangles, the prices and the anchors are those of
-- the rule on the bounded ones of these faces.
pub record HasFaceOptimum (faces : List (List ℕ)) (r : Report) : Type 0 where
  pub live : HasEdgesIn r.hull r.tris (live_edges_of r)
  pub rule : FollowsFaceRule r.points r.hull (live_edges_of r) r.skeleton (bounded_faces r.hull faces) r.tris (prices_of r)

-- With the method flips the prices are those of the ascent, and the triangulation was found by flips.
pub record IsDescended (sweeps : ℕ) (r : Report) : Type 0 where
  pub ascent : HasAscentPrices sweeps r
  pub shortened : IsShortenedSweep r

-- The report of a file with these settings.
pub record IsReportOf (file : File) (settings : Settings) (r : Report) : Type 0 where
  pub version : r.version ≡ 2
  pub diamond : r.diamond ≡ settings.diamond
  pub unit : r.unit ≡ file.unit
  pub merged : r.merged ≡ file.merged
  pub points : r.points ≡ file.points.points
  pub certified : IsCertified r
  pub decided : HasDecidedMethod r
  pub by_faces : r.method ≡ Faces → HasFaceOptimum decided.faces r
  pub by_flips : r.method ≡ Flips → IsDescended settings.sweeps r
