-- The laws of the bound that prices give: no triangulation with live edges is shorter, and so none at all.
use Rattle.std.specs.Prelude.{ℕ, List, All, ℤ, pos, ◌≤ℤ◌}
use Rattle.exact_predicates.specs.declared.diamond.Diamond.{Diamond}
use Rattle.exact_predicates.specs.declared.diamond.Diamond.TheVariants.{Off}
use Rattle.exact_predicates.specs.declared.edge.Edge.{Edge}
use Rattle.exact_predicates.specs.declared.point.Point.{Point}
use Rattle.exact_predicates.specs.declared.tri.Tri.{Tri}
use Rattle.exact_predicates.specs.Hull.{IsHull}
use Rattle.exact_predicates.specs.Triangulation.{IsTriangulation, edges}
use Rattle.exact_predicates.specs.Candidates.{AreCandidates}
use Rattle.exact_predicates.specs.Length.{IsAsShort, IsAtLeast}
use Rattle.length_enclosure.specs.Enclosure.{lo}
use Rattle.lmt_network.specs.Edges.{HasEdgesIn, HasCandidateEdges}
use Rattle.lmt_network.specs.FlipMinimal.{IsFlipMinimalTriangulation}
use Rattle.lmt_network.specs.Live.{IsLive}
use Rattle.lmt_network.specs.Prices.{Priced, priced_edges, IsFeasible, ArePrices, bound}
use Rattle.lmt_network.specs.Skeleton.{IsSkeletonEdge}

-- The length is split among the live edges: these are priced, no live triangle has a negative slack, and the anchored
-- edges are skeleton edges.
pub record IsSplit (ps : List Point) (hull : List ℕ) (diamond : Diamond) (anchored : List Edge) (prices : List Priced) : Type 0 where
  pub hull_is : IsHull ps hull
  pub live : IsLive ps hull diamond (priced_edges prices)
  pub skeleton : All (IsSkeletonEdge ps (priced_edges prices)) anchored
  pub prices_are : ArePrices anchored prices
  pub feasible : IsFeasible ps hull prices

-- A triangulation with live edges is at least as long as the bound, also where each edge is rounded down.
abbrev pub BoundIsBelow : Type 0
BoundIsBelow =
    (ps : List Point) (hull : List ℕ) (diamond : Diamond) (anchored : List Edge) (prices : List Priced) (tris : List Tri)
    → IsSplit ps hull diamond anchored prices → IsTriangulation ps hull tris → HasEdgesIn hull tris (priced_edges prices)
    → bound hull prices ≤ℤ pos (lo ps (edges hull tris))

-- a flip-minimal triangulation of candidate edges that is at most as long as the triangulation first
pub record Improvement (ps : List Point) (hull : List ℕ) (diamond : Diamond) (first : List Tri) : Type 0 where
  pub tris : List Tri
  pub flip_minimal : IsFlipMinimalTriangulation ps hull tris
  pub candidates : HasCandidateEdges ps hull diamond tris
  pub not_longer : IsAsShort ps (edges hull tris) (edges hull first)

-- The exclusion premise of the diamond test: each triangulation has such an improvement.
abbrev pub Exclusion : List Point → List ℕ → Diamond → Type 0
Exclusion ps hull diamond = (first : List Tri) → IsTriangulation ps hull first → Improvement ps hull diamond first

-- With the test off it holds.
abbrev pub ExclusionOff : Type 0
ExclusionOff = (ps : List Point) (hull : List ℕ) → IsHull ps hull → Exclusion ps hull Off

-- It holds with any value of the test that leaves the candidates that there are with the test off.
abbrev pub ExclusionWhereSame : Type 0
ExclusionWhereSame =
    (ps : List Point) (hull : List ℕ) (diamond : Diamond) (candidates : List Edge)
    → IsHull ps hull → AreCandidates ps hull Off candidates → AreCandidates ps hull diamond candidates
    → Exclusion ps hull diamond

-- no triangulation is shorter than so many millionths
abbrev pub NoneIsShorter : List Point → List ℕ → ℤ → Type 0
NoneIsShorter ps hull least = (tris : List Tri) → IsTriangulation ps hull tris → IsAtLeast ps (edges hull tris) least

-- Under the premise no triangulation is shorter than the bound,
abbrev pub BoundHolds : Type 0
BoundHolds =
    (ps : List Point) (hull : List ℕ) (diamond : Diamond) (anchored : List Edge) (prices : List Priced)
    → IsSplit ps hull diamond anchored prices → Exclusion ps hull diamond → NoneIsShorter ps hull (bound hull prices)

-- and with the test off without it.
abbrev pub BoundHoldsOff : Type 0
BoundHoldsOff =
    (ps : List Point) (hull : List ℕ) (anchored : List Edge) (prices : List Priced)
    → IsSplit ps hull Off anchored prices → NoneIsShorter ps hull (bound hull prices)
