-- The edges of a triangulation, as edges between numbered points.
use Rattle.std.specs.Prelude.{ℕ, List, All, AllPairs, Any, Contains}
use Rattle.exact_predicates.specs.declared.diamond.Diamond.{Diamond}
use Rattle.exact_predicates.specs.declared.edge.Edge.{Edge}
use Rattle.exact_predicates.specs.declared.point.Point.{Point}
use Rattle.exact_predicates.specs.declared.tri.Tri.{Tri}
use Rattle.exact_predicates.specs.Triangulation.{edges}
use Rattle.exact_predicates.specs.Candidates.{EdgePrecedes, Joins, IsCandidate}

-- e is an edge of the triangulation
abbrev pub IsEdgeOf : List ℕ → List Tri → Edge → Type 0
IsEdgeOf hull tris e = Any (λ s. Joins e s.0 s.1) (edges hull tris)

-- every edge of the triangulation is among es
abbrev pub HasEdgesIn : List ℕ → List Tri → List Edge → Type 0
HasEdgesIn hull tris es = (e : Edge) → IsEdgeOf hull tris e → Contains es e

-- every edge of the triangulation is a candidate
abbrev pub HasCandidateEdges : List Point → List ℕ → Diamond → List Tri → Type 0
HasCandidateEdges ps hull diamond tris = (e : Edge) → IsEdgeOf hull tris e → IsCandidate ps hull diamond e

-- es lists the edges of the triangulation, ascending
pub record AreEdgesOf (hull : List ℕ) (tris : List Tri) (es : List Edge) : Type 0 where
  pub ascending : AllPairs EdgePrecedes es
  pub each : All (IsEdgeOf hull tris) es
  pub all : HasEdgesIn hull tris es
