-- A network: points with their hull, the candidate edges, and the empty triangles that these bound. Edges and triangles
-- are known by their places in the two lists.
use Rattle.std.specs.Prelude.{ℕ, ◌<◌, ◌≤◌, List, length, All, AllPairs, Contains, slice_index_or}
use Rattle.std.proofs.Common.{lit<}
use Rattle.std.proofs.Math.Nat.{ne_of_lt}
use Rattle.mwt_base.specs.Limits.{most_edges, most_triangles}
use Rattle.exact_predicates.specs.declared.edge.Edge.{Edge}
use Rattle.exact_predicates.specs.declared.point.Point.{Point}
use Rattle.exact_predicates.specs.declared.tri.Tri.{Tri}
use Rattle.exact_predicates.specs.Hull.{IsHull}
use Rattle.exact_predicates.specs.Plane.{IsBetween}
use Rattle.exact_predicates.specs.PointSet.{IsPointSet, point_at}
use Rattle.exact_predicates.specs.Candidates.{EdgePrecedes, AreTrianglesOver}
use Rattle.lmt_network.specs.Live.{IsHullEdge}

-- what a network is made of
pub record NetworkParts : Type 0 where
  pub points : List Point
  pub hull : List ℕ
  pub edges : List Edge
  pub tris : List Tri

-- the edge of a number
abbrev pub edge_at : NetworkParts → ℕ → Edge
edge_at n e = slice_index_or n.edges e (record { a = 0; b = 1; ascending = lit< tt })

-- the triangle of a number
abbrev pub tri_at : NetworkParts → ℕ → Tri
tri_at n t = slice_index_or n.tris t (record { a = 0; b = 1; c = 2; below_b = lit< tt; below_c = lit< tt; apart = ne_of_lt (lit< tt) })

-- What every network keeps. `clear`: no point is between the ends of an edge.
pub record IsNetwork (n : NetworkParts) : Type 0 where
  pub points_are : IsPointSet n.points
  pub hull_is : IsHull n.points n.hull
  pub ascending : AllPairs EdgePrecedes n.edges
  pub ends_in : All (λ e. e.b < length n.points) n.edges
  pub clear : All (λ e. (r : ℕ) → r < length n.points → ¬ IsBetween (point_at n.points e.a) (point_at n.points e.b) (point_at n.points r)) n.edges
  pub hull_edges : (e : Edge) → IsHullEdge n.hull e → Contains n.edges e
  pub tris_are : AreTrianglesOver n.points n.edges n.tris
  pub few_edges : length n.edges ≤ most_edges
  pub few_tris : length n.tris ≤ most_triangles
