-- The laws of hulls, of the edges of triangulations, of lists that are determined, and of roots.
use Rattle.std.specs.Prelude.{◌≡◌, ℕ, ◌+◌, ◌*◌, List, length}
use Rattle.exact_predicates.specs.declared.edge.Edge.{Edge}
use Rattle.exact_predicates.specs.declared.point.Point.{Point}
use Rattle.exact_predicates.specs.declared.tri.Tri.{Tri}
use Rattle.exact_predicates.specs.Candidates.{AreTrianglesOver}
use Rattle.exact_predicates.specs.Hull.{IsHull}
use Rattle.exact_predicates.specs.PointSet.{IsPointSet}
use Rattle.exact_predicates.specs.Root.{IsRootDown, IsRootUp, root_down, root_up}
use Rattle.exact_predicates.specs.Triangulation.{IsTriangulation, edges}

-- the points of a problem have one hull
abbrev pub OneHull : Type 0
OneHull = (ps : List Point) (h k : List ℕ) → IsPointSet ps → IsHull ps h → IsHull ps k → h ≡ k

-- a triangulation of n points with h of them on the hull has 3n - 3 - h edges
abbrev pub EdgeCount : Type 0
EdgeCount =
    (ps : List Point) (hull : List ℕ) (tris : List Tri) → IsHull ps hull → IsTriangulation ps hull tris
    → length (edges hull tris) + length hull + 3 ≡ 3 * length ps

-- there is one list of the empty triangles over some edges
abbrev pub OneTriangleList : Type 0
OneTriangleList =
    (ps : List Point) (es : List Edge) (ts us : List Tri) → AreTrianglesOver ps es ts → AreTrianglesOver ps es us → ts ≡ us

-- the two roots are what they are called
abbrev pub RootsAreRoots : Type 0
RootsAreRoots = (n : ℕ) → IsRootDown n (root_down n) × IsRootUp n (root_up n)
