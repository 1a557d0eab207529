-- Lists of edges that support one another: the closed lists, and the greatest of them, the live list.
use Rattle.std.specs.Prelude.{◌⊎◌, ℕ, List, All, AllPairs, Contains}
use Rattle.exact_predicates.specs.declared.diamond.Diamond.{Diamond}
use Rattle.exact_predicates.specs.declared.edge.Edge.{Edge}
use Rattle.exact_predicates.specs.declared.point.Point.{Point}
use Rattle.exact_predicates.specs.declared.tri.Tri.{Tri}
use Rattle.exact_predicates.specs.Hull.{IsHullPair}
use Rattle.exact_predicates.specs.Triangulation.{HasCorners}
use Rattle.exact_predicates.specs.Flip.{IsMinimalBetween}
use Rattle.exact_predicates.specs.Candidates.{EdgePrecedes, IsCandidate, IsEmptyOver}

-- e is an edge of the hull: its two ends, in one order or the other, are a pair of it
abbrev pub IsHullEdge : List ℕ → Edge → Type 0
IsHullEdge hull e = IsHullPair hull e.a e.b ⊎ IsHullPair hull e.b e.a

-- The edge e has a support in the list es: on its two sides empty triangles, all of whose sides are in the list, between
-- which it is locally minimal.
pub record HasSupport (ps : List Point) (es : List Edge) (e : Edge) : Type 0 where
  pub left : Tri
  pub right : Tri
  pub a : ℕ
  pub b : ℕ
  pub left_is : HasCorners left e.a e.b a
  pub right_is : HasCorners right e.b e.a b
  pub left_over : IsEmptyOver ps es left
  pub right_over : IsEmptyOver ps es right
  pub minimal : IsMinimalBetween ps e.a e.b a b

-- A closed list: candidate edges, ascending, each of which is an edge of the hull or has a support in the list.
pub record IsClosed (ps : List Point) (hull : List ℕ) (diamond : Diamond) (es : List Edge) : Type 0 where
  pub ascending : AllPairs EdgePrecedes es
  pub candidates : All (IsCandidate ps hull diamond) es
  pub supported : All (λ e. IsHullEdge hull e ⊎ HasSupport ps es e) es

-- The live list: the closed list that has every edge of the hull and each member of every closed list.
pub record IsLive (ps : List Point) (hull : List ℕ) (diamond : Diamond) (es : List Edge) : Type 0 where
  pub closed : IsClosed ps hull diamond es
  pub hull_edges : (e : Edge) → IsHullEdge hull e → Contains es e
  pub greatest : (fs : List Edge) → IsClosed ps hull diamond fs → All (Contains es) fs
