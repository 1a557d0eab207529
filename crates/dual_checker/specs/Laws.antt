-- What a good report proves.
use Rattle.std.specs.Prelude.{◌≡◌, List, All, pos, ◌≤ℤ◌}
use Rattle.exact_predicates.specs.declared.diamond.Diamond.TheVariants.{Off}
use Rattle.exact_predicates.specs.declared.tri.Tri.{Tri}
use Rattle.exact_predicates.specs.Length.{IsAtLeast, IsAtMost}
use Rattle.exact_predicates.specs.Triangulation.{IsTriangulation, edges}
use Rattle.lmt_network.specs.Bounds.{Exclusion, NoneIsShorter}
use Rattle.length_enclosure.specs.Enclosure.{lo}
use Rattle.lmt_network.specs.Edges.{HasCandidateEdges, HasEdgesIn, IsEdgeOf}
use Rattle.lmt_network.specs.FlipMinimal.{IsFlipMinimalTriangulation}
use Rattle.cert_text.specs.declared.report.Method.TheVariants.{Faces}
use Rattle.cert_text.specs.declared.report.Report.{Report}
use Rattle.dual_checker.specs.GoodReport.{IsGoodReport, live_edges_of}

-- No triangulation is shorter than the bound of a good report, given the premise of its diamond test.
abbrev pub BoundIsLower : Type 0
BoundIsLower =
    (r : Report) (tris : List Tri) → IsGoodReport r → Exclusion r.points r.hull r.diamond → IsTriangulation r.points r.hull tris
    → IsAtLeast r.points (edges r.hull tris) r.bound

-- No triangulation with live edges is, even where each of its edges is rounded down, and that needs no premise.
abbrev pub BoundIsLowerOverLive : Type 0
BoundIsLowerOverLive =
    (r : Report) (tris : List Tri) → IsGoodReport r → IsTriangulation r.points r.hull tris → HasEdgesIn r.hull tris (live_edges_of r)
    → r.bound ≤ℤ pos (lo r.points (edges r.hull tris))

-- With the test off none is shorter, without the premise.
abbrev pub BoundIsLowerOff : Type 0
BoundIsLowerOff = (r : Report) → IsGoodReport r → r.diamond ≡ Off → NoneIsShorter r.points r.hull r.bound

-- The triangulation of a report is as short as any, up to the millionths between the two ends of its length: the bound is
-- the lower end, the triangulation is not longer than the upper end, and none is shorter than the lower end, given the
-- premise of the diamond test.
pub record IsOptimalWithinEnds (r : Report) : Type 0 where
  pub bound : r.bound ≡ pos r.lo
  pub not_longer : IsAtMost r.points (edges r.hull r.tris) r.hi
  pub none_shorter : Exclusion r.points r.hull r.diamond → NoneIsShorter r.points r.hull (pos r.lo)

-- That of a good report is so where the method is faces.
abbrev pub FacesAreOptimal : Type 0
FacesAreOptimal = (r : Report) → IsGoodReport r → r.method ≡ Faces → IsOptimalWithinEnds r

-- Each skeleton edge of a good report is an edge of every flip-minimal triangulation of candidate edges.
abbrev pub SkeletonIsCommon : Type 0
SkeletonIsCommon =
    (r : Report) (tris : List Tri) → IsGoodReport r → IsFlipMinimalTriangulation r.points r.hull tris
    → HasCandidateEdges r.points r.hull r.diamond tris → All (IsEdgeOf r.hull tris) r.skeleton
