-- The network that was built of its parts, its elimination, and that its points are within the limits.
use Rattle.std.proofs.Common.{◌≡◌, ℕ, ◌≤◌, List, Bool, length, refl, sym, subst}
use Rattle.mwt_base.specs.Limits.{most_edges, most_triangles}
use Rattle.exact_predicates.specs.declared.diamond.Diamond.{Diamond}
use Rattle.exact_predicates.specs.declared.edge.Edge.{Edge}
use Rattle.exact_predicates.specs.declared.point.Point.{Point}
use Rattle.exact_predicates.specs.declared.tri.Tri.{Tri}
use Rattle.exact_predicates.specs.Candidates.{IsCandidate, AreCandidates, IsEmptyOver, AreTrianglesOver}
use Rattle.exact_predicates.specs.Hull.{IsHull}
use Rattle.exact_predicates.specs.PointSet.{IsPointSet}
use Rattle.exact_predicates.proofs.Ascending.{AreCandidates-only}
use Rattle.exact_predicates.proofs.Few.{few_from_list}
use Rattle.exact_predicates.proofs.OneHull.{IsHull-only}
use Rattle.lmt_network.specs.Flags.{live_edges}
use Rattle.lmt_network.specs.Live.{IsLive}
use Rattle.lmt_network.specs.Network.{NetworkParts}
use Rattle.dual_checker.specs.Elimination.{IsElimination, IsNetworkOf, IsWithinLimits}

pub IsNetworkOf-built : (ps : List Point) (hull : List ℕ) (diamond : Diamond) (es : List Edge) (ts : List Tri) (net : NetworkParts)
    → net ≡ record { points = ps; hull = hull; edges = es; tris = ts } → AreCandidates ps hull diamond es → length es ≤ most_edges
    → AreTrianglesOver ps es ts → length ts ≤ most_triangles → IsNetworkOf ps hull diamond net
IsNetworkOf-built ps hull diamond es ts net e candidates few_edges triangles few_triangles =
    subst (λ (n : NetworkParts). IsNetworkOf ps hull diamond n) (sym e) (record {
      points_are = refl;
      hull_is = refl;
      candidates = candidates;
      few_edges = few_edges;
      triangles = triangles;
      few_triangles = few_triangles;
    })

-- what plain elimination says of the flags that it leaves
abbrev pub LeavesLive : NetworkParts → List Bool → Type 0
LeavesLive net flags =
    (diamond : Diamond) → AreCandidates net.points net.hull diamond net.edges → IsLive net.points net.hull diamond (live_edges net flags)

-- the same, said of the points and the hull
live_for : (ps qs : List Point) (hull ring : List ℕ) (diamond : Diamond) (net : NetworkParts) (live : List Edge)
    → qs ≡ ps → ring ≡ hull → (AreCandidates qs ring diamond net.edges → IsLive qs ring diamond live)
    → AreCandidates ps hull diamond net.edges → IsLive ps hull diamond live
live_for ps qs hull ring diamond net live p h =
    subst (λ (xs : List Point). (AreCandidates qs ring diamond net.edges → IsLive qs ring diamond live) → AreCandidates xs hull diamond net.edges → IsLive xs hull diamond live) p
    (subst (λ (xs : List ℕ). (AreCandidates qs ring diamond net.edges → IsLive qs ring diamond live) → AreCandidates qs xs diamond net.edges → IsLive qs xs diamond live) h (λ f. f))

pub IsElimination-settled : (ps : List Point) (hull : List ℕ) (diamond : Diamond) (net : NetworkParts) (flags : List Bool)
    → IsNetworkOf ps hull diamond net → length flags ≡ length net.edges → LeavesLive net flags → IsElimination ps hull diamond net flags
IsElimination-settled ps hull diamond net flags is one_each live = record {
  network = is;
  one_each = one_each;
  live = live_for ps net.points hull net.hull diamond net (live_edges net flags) is.points_are is.hull_is (live diamond) is.candidates;
}

-- the candidates of a network are those over any hull of its points
over_hull : (ps : List Point) (h k : List ℕ) (diamond : Diamond) (es : List Edge) → IsPointSet ps → IsHull ps h → IsHull ps k
    → AreCandidates ps h diamond es → AreCandidates ps k diamond es
over_hull ps h k diamond es set h_is k_is = subst (λ (x : List ℕ). AreCandidates ps x diamond es) (IsHull-only ps h k set h_is k_is)

pub IsWithinLimits-network : (ps : List Point) (hull : List ℕ) (diamond : Diamond) (net : NetworkParts)
    → IsPointSet ps → IsHull ps hull → IsNetworkOf ps hull diamond net → IsWithinLimits ps diamond
IsWithinLimits-network ps hull diamond net set hull_is n = record {
  edges = λ many. few_from_list (IsCandidate ps many.hull diamond) net.edges most_edges
      (over_hull ps hull many.hull diamond net.edges set hull_is many.hull_is n.candidates).all n.few_edges many.dense;
  triangles = λ many.
      let same : net.edges ≡ many.edges = AreCandidates-only ps many.hull diamond net.edges many.edges
      (over_hull ps hull many.hull diamond net.edges set hull_is many.hull_is n.candidates) many.candidates in
      few_from_list (IsEmptyOver ps many.edges) net.tris most_triangles
      (subst (λ (es : List Edge). AreTrianglesOver ps es net.tris) same n.triangles).all n.few_triangles many.dense;
}
