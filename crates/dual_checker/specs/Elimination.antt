-- The candidate edges of a set of points and its live edges, and the sets that have too many of them.
use Rattle.std.specs.Prelude.{◌≡◌, ℕ, ◌≤◌, List, Bool, length}
use Rattle.mwt_base.specs.Limits.{most_edges, most_triangles}
use Rattle.exact_predicates.specs.declared.diamond.Diamond.{Diamond}
use Rattle.exact_predicates.specs.declared.edge.Edge.{Edge}
use Rattle.exact_predicates.specs.declared.point.Point.{Point}
use Rattle.exact_predicates.specs.Candidates.{IsCandidate, AreCandidates, IsEmptyOver, AreTrianglesOver, AreMoreThan}
use Rattle.exact_predicates.specs.Hull.{IsHull}
use Rattle.lmt_network.specs.Flags.{live_edges}
use Rattle.lmt_network.specs.Live.{IsLive}
use Rattle.lmt_network.specs.Network.{NetworkParts}

-- the points have more candidate edges than the limit
pub record HasTooManyEdges (ps : List Point) (diamond : Diamond) : Type 0 where
  pub hull : List ℕ
  pub hull_is : IsHull ps hull
  pub dense : AreMoreThan (IsCandidate ps hull diamond) most_edges

-- the points have no more candidate edges than that, but more empty triangles with candidate sides than the limit
pub record HasTooManyTriangles (ps : List Point) (diamond : Diamond) : Type 0 where
  pub hull : List ℕ
  pub hull_is : IsHull ps hull
  pub edges : List Edge
  pub candidates : AreCandidates ps hull diamond edges
  pub few : length edges ≤ most_edges
  pub dense : AreMoreThan (IsEmptyOver ps edges) most_triangles

-- the points have neither too many candidate edges nor too many empty triangles
pub record IsWithinLimits (ps : List Point) (diamond : Diamond) : Type 0 where
  pub edges : ¬ HasTooManyEdges ps diamond
  pub triangles : ¬ HasTooManyTriangles ps diamond

-- The network is that of the points with this hull.
pub record IsNetworkOf (ps : List Point) (hull : List ℕ) (diamond : Diamond) (net : NetworkParts) : Type 0 where
  pub points_are : net.points ≡ ps
  pub hull_is : net.hull ≡ hull
  pub candidates : AreCandidates ps hull diamond net.edges
  pub few_edges : length net.edges ≤ most_edges
  pub triangles : AreTrianglesOver ps net.edges net.tris
  pub few_triangles : length net.tris ≤ most_triangles

-- The network is that of the points with this hull, and its live edges are those of the points.
pub record IsElimination (ps : List Point) (hull : List ℕ) (diamond : Diamond) (net : NetworkParts) (flags : List Bool) : Type 0 where
  pub network : IsNetworkOf ps hull diamond net
  pub one_each : length flags ≡ length net.edges
  pub live : IsLive ps hull diamond (live_edges net flags)
