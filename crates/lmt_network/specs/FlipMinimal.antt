-- Flip-minimal triangulations, and the laws that make their edges live.
use Rattle.std.specs.Prelude.{ℕ, List}
use Rattle.exact_predicates.specs.declared.diamond.Diamond.{Diamond}
use Rattle.exact_predicates.specs.declared.diamond.Diamond.TheVariants.{Off}
use Rattle.exact_predicates.specs.declared.edge.Edge.{Edge}
use Rattle.exact_predicates.specs.declared.point.Point.{Point}
use Rattle.exact_predicates.specs.declared.tri.Tri.{Tri}
use Rattle.exact_predicates.specs.Hull.{IsHull}
use Rattle.exact_predicates.specs.Triangulation.{IsTriangulation}
use Rattle.exact_predicates.specs.Flip.{IsFlipMinimal}
use Rattle.lmt_network.specs.Edges.{HasEdgesIn, HasCandidateEdges, AreEdgesOf}
use Rattle.lmt_network.specs.Live.{IsClosed, IsLive}

-- a triangulation in which no flip makes an edge shorter
pub record IsFlipMinimalTriangulation (ps : List Point) (hull : List ℕ) (tris : List Tri) : Type 0 where
  pub hull_is : IsHull ps hull
  pub triangulation : IsTriangulation ps hull tris
  pub minimal : IsFlipMinimal ps hull tris

-- The edges of a flip-minimal triangulation are a closed list, where all of them are candidates.
abbrev pub FlipMinimalIsClosed : Type 0
FlipMinimalIsClosed =
    (ps : List Point) (hull : List ℕ) (diamond : Diamond) (tris : List Tri) (es : List Edge)
    → IsFlipMinimalTriangulation ps hull tris → HasCandidateEdges ps hull diamond tris
    → AreEdgesOf hull tris es → IsClosed ps hull diamond es

-- So each of them is live.
abbrev pub FlipMinimalIsLive : Type 0
FlipMinimalIsLive =
    (ps : List Point) (hull : List ℕ) (diamond : Diamond) (tris : List Tri) (live : List Edge)
    → IsFlipMinimalTriangulation ps hull tris → HasCandidateEdges ps hull diamond tris
    → IsLive ps hull diamond live → HasEdgesIn hull tris live

-- With the test off every edge of every triangulation is a candidate.
abbrev pub EdgesAreCandidates : Type 0
EdgesAreCandidates =
    (ps : List Point) (hull : List ℕ) (tris : List Tri)
    → IsHull ps hull → IsTriangulation ps hull tris → HasCandidateEdges ps hull Off tris
