-- The good report: what holds of a report that is right about its points. It has twelve parts, each a proposition about the
-- report alone. The parts after the hull speak of the printed hull, and those after the live list of the printed live
-- lines and skeleton: where the parts before them hold, these are the only ones.
use Rattle.std.specs.Prelude.{◌≡◌, ◌≢◌, ◌⊎◌, ◌↔◌, ℕ, Bool, not, ◌==◌, cond, List, [], length, map, filter, All, AllPairs, Contains, pos, ◌-ℤ◌}
use Rattle.exact_predicates.specs.declared.edge.Edge.{Edge}
use Rattle.exact_predicates.specs.declared.tri.Tri.{Tri}
use Rattle.exact_predicates.specs.Candidates.{AreCandidates}
use Rattle.exact_predicates.specs.Flip.{IsFlipMinimal}
use Rattle.exact_predicates.specs.Hull.{IsHull}
use Rattle.exact_predicates.specs.PointSet.{HasTurn}
use Rattle.exact_predicates.specs.Triangulation.{IsTriangulation, edges}
use Rattle.length_enclosure.specs.Enclosure.{lo, hi}
use Rattle.lmt_network.specs.Live.{IsHullEdge, IsLive}
use Rattle.lmt_network.specs.Numbers.{HasSide}
use Rattle.lmt_network.specs.Prices.{Priced, IsLiveTriangle, IsFeasible, IsTight, bound, is_on_hull}
use Rattle.lmt_network.specs.Skeleton.{AreSkeleton}
use Rattle.cert_text.specs.declared.report.LineKind.TheVariants.{Hull, Skeleton}
use Rattle.cert_text.specs.declared.report.Method.TheVariants.{Flips, Faces}
use Rattle.cert_text.specs.declared.report.PriceLine.{PriceLine}
use Rattle.cert_text.specs.declared.report.Report.{Report}
use Rattle.cert_text.specs.Within.{IsWithin}
use Rattle.dual_checker.specs.Parts.{Parts, done, part}

-- the edges of the live lines
abbrev pub live_edges_of : Report → List Edge
live_edges_of r = map (λ l. l.edge) r.live

-- what a live line says of its edge: its anchor or price, and the anchors of its two sides
abbrev pub price_of : PriceLine → Priced
price_of l = record { edge = l.edge; value = l.value; left = l.left; right = l.right }

-- the prices and anchors of the live lines
abbrev pub prices_of : Report → List Priced
prices_of r = map price_of r.live

-- whether an edge is no edge of the hull
abbrev pub is_off_hull : List ℕ → Edge → Bool
is_off_hull hull e = not (is_on_hull hull e.a e.b)

-- the inner edges with anchors on both sides: none in version 1, and in version 2 the edges of the skeleton that are no
-- edges of the hull
abbrev pub anchored_of : Report → List Edge
anchored_of r = cond (r.version == 1) [] (filter (is_off_hull r.hull) r.skeleton)

-- 1, points: the ids differ, and not all points lie on one line
pub record HasPoints (r : Report) : Type 0 where
  pub distinct_ids : AllPairs (λ p q. p.id ≢ q.id) r.points
  pub not_flat : HasTurn r.points

-- 2, hull: it is the hull of the points
abbrev pub HasHull : Report → Type 0
HasHull r = IsHull r.points r.hull

-- 3, candidates: there are as many as the report says
pub record HasCandidates (r : Report) : Type 0 where
  pub list : List Edge
  pub are : AreCandidates r.points r.hull r.diamond list
  pub count : r.candidates ≡ length list

-- 4, live: the edges of the live lines are the live list
abbrev pub HasLive : Report → Type 0
HasLive r = IsLive r.points r.hull r.diamond (live_edges_of r)

-- 5, skeleton: it is that of the live edges
abbrev pub HasSkeleton : Report → Type 0
HasSkeleton r = AreSkeleton r.points (live_edges_of r) r.skeleton

-- 6, triangulation: the triangles are one of the points, and where the method is flips, no flip makes an edge of it shorter
pub record HasTriangulation (r : Report) : Type 0 where
  pub triangulation : IsTriangulation r.points r.hull r.tris
  pub minimal : r.method ≡ Flips → IsFlipMinimal r.points r.hull r.tris

-- 7, length: its two ends are those of the triangulation
pub record HasLength (r : Report) : Type 0 where
  pub lower : r.lo ≡ lo r.points (edges r.hull r.tris)
  pub upper : r.hi ≡ hi r.points (edges r.hull r.tris)

-- some live triangle has the edge as a side, in one direction or the other
abbrev pub HasLiveTriangle : Report → Edge → Type 0
HasLiveTriangle r e = (t : Tri) × (HasSide t e.a e.b ⊎ HasSide t e.b e.a) × IsLiveTriangle r.points (prices_of r) t

-- a line has the kind of the skeleton exactly where its edge is in the skeleton and no edge of the hull
abbrev pub IsSkeletonKind : Report → PriceLine → Type 0
IsSkeletonKind r l = (l.kind ≡ Skeleton) ↔ (Contains r.skeleton l.edge × (¬ IsHullEdge r.hull l.edge))

-- a live line is marked by what its edge is, and an edge of the hull without a live triangle has the anchor 0
pub record IsMarked (r : Report) (l : PriceLine) : Type 0 where
  pub hull : (l.kind ≡ Hull) ↔ IsHullEdge r.hull l.edge
  pub skeleton : r.version ≡ 2 → IsSkeletonKind r l
  pub bare : l.kind ≡ Hull → HasLiveTriangle r l.edge ⊎ (l.value ≡ pos 0)

-- 8, prices: each line is marked so
abbrev pub HasMarks : Report → Type 0
HasMarks r = All (IsMarked r) r.live

-- 9, slack: no live triangle has a negative one
abbrev pub HasSlack : Report → Type 0
HasSlack r = IsFeasible r.points r.hull (prices_of r)

-- 10, bound: it is the sum of the anchors, and no anchor can be raised alone
pub record HasBound (r : Report) : Type 0 where
  pub sum : r.bound ≡ bound r.hull (prices_of r)
  pub tight : IsTight r.points r.hull (anchored_of r) (prices_of r)

-- 11, gap: it is the upper end of the length less the bound
abbrev pub HasGap : Report → Type 0
HasGap r = r.gap ≡ pos r.hi -ℤ r.bound

-- 12, faces: where the method is faces, the bound is the lower end of the length of the triangulation
abbrev pub HasFaces : Report → Type 0
HasFaces r = r.method ≡ Faces → r.bound ≡ pos (lo r.points (edges r.hull r.tris))

-- the parts in their order: the last five, those after the hull, and all
abbrev pub price_parts : Report → Parts
price_parts r = part (HasMarks r) (part (HasSlack r) (part (HasBound r) (part (HasGap r) (part (HasFaces r) done))))

abbrev pub edge_parts : Report → Parts
edge_parts r =
    part (HasCandidates r) (part (HasLive r) (part (HasSkeleton r) (part (HasTriangulation r) (part (HasLength r) (price_parts r)))))

abbrev pub parts : Report → Parts
parts r = part (HasPoints r) (part (HasHull r) (edge_parts r))

-- A good report: it is within the ranges and orders of its version, and each part holds.
pub record IsGoodReport (r : Report) : Type 0 where
  pub within : IsWithin r
  pub points : HasPoints r
  pub hull : HasHull r
  pub candidates : HasCandidates r
  pub live : HasLive r
  pub skeleton : HasSkeleton r
  pub triangulation : HasTriangulation r
  pub length : HasLength r
  pub marks : HasMarks r
  pub slack : HasSlack r
  pub bound : HasBound r
  pub gap : HasGap r
  pub faces : HasFaces r
