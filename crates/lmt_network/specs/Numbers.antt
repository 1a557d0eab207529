-- Supports, closed lists and the live list of a network, said by the numbers of its edges and triangles.
use Rattle.std.specs.Prelude.{◌≢◌, ◌⊎◌, ℕ, ◌<◌, List, length, All, Any, Contains}
use Rattle.exact_predicates.specs.declared.tri.Tri.{Tri}
use Rattle.exact_predicates.specs.Triangulation.{HasCorners}
use Rattle.exact_predicates.specs.Flip.{IsMinimalBetween}
use Rattle.exact_predicates.specs.Candidates.{Joins}
use Rattle.lmt_network.specs.Live.{IsHullEdge}
use Rattle.lmt_network.specs.Network.{NetworkParts, edge_at, tri_at}

-- the edge e is an edge of the hull
abbrev pub IsHullNumber : NetworkParts → ℕ → Type 0
IsHullNumber n e = IsHullEdge n.hull (edge_at n e)

-- t has the side u to v
abbrev pub HasSide : Tri → ℕ → ℕ → Type 0
HasSide t u v = (w : ℕ) × HasCorners t u v w

-- the triangle t is on the left of the edge e: it has the side from its lesser end to its greater
abbrev pub IsOnLeft : NetworkParts → ℕ → ℕ → Type 0
IsOnLeft n e t = (t < length n.tris) × HasSide (tri_at n t) (edge_at n e).a (edge_at n e).b

-- the triangle t is on the right of the edge e: it has the side from its greater end to its lesser
abbrev pub IsOnRight : NetworkParts → ℕ → ℕ → Type 0
IsOnRight n e t = (t < length n.tris) × HasSide (tri_at n t) (edge_at n e).b (edge_at n e).a

-- l and r are triangles on the left and on the right of the edge e between which it is locally minimal
pub record IsMinimalPair (n : NetworkParts) (e l r : ℕ) : Type 0 where
  pub l_in : l < length n.tris
  pub r_in : r < length n.tris
  pub a : ℕ
  pub b : ℕ
  pub left_is : HasCorners (tri_at n l) (edge_at n e).a (edge_at n e).b a
  pub right_is : HasCorners (tri_at n r) (edge_at n e).b (edge_at n e).a b
  pub minimal : IsMinimalBetween n.points (edge_at n e).a (edge_at n e).b a b

-- f is the number of the edge with the ends u and v
abbrev pub IsNumberOf : NetworkParts → ℕ → ℕ → ℕ → Type 0
IsNumberOf n u v f = (f < length n.edges) × Joins (edge_at n f) u v

-- the edge f is a side of the triangle t
abbrev pub IsSideOf : NetworkParts → ℕ → ℕ → Type 0
IsSideOf n t f =
    IsNumberOf n (tri_at n t).a (tri_at n t).b f
    ⊎ (IsNumberOf n (tri_at n t).b (tri_at n t).c f ⊎ IsNumberOf n (tri_at n t).c (tri_at n t).a f)

-- the edge f is a side of one of the triangles l and r, and is not e
abbrev pub IsOtherSide : NetworkParts → ℕ → ℕ → ℕ → ℕ → Type 0
IsOtherSide n e l r f = (f ≢ e) × (IsSideOf n l f ⊎ IsSideOf n r f)

-- the edge e has a locally minimal pair whose other sides are all among the edges es
pub record IsSupported (n : NetworkParts) (es : List ℕ) (e : ℕ) : Type 0 where
  pub l : ℕ
  pub r : ℕ
  pub pair : IsMinimalPair n e l r
  pub others : (f : ℕ) → IsOtherSide n e l r f → Contains es f

-- the edge e has with l on its left a locally minimal pair whose right triangle has all sides among the edges es
pub record IsSupportedWith (n : NetworkParts) (es : List ℕ) (e l : ℕ) : Type 0 where
  pub r : ℕ
  pub pair : IsMinimalPair n e l r
  pub sides : (f : ℕ) → IsSideOf n r f → Contains es f

-- the edges es are closed: each is an edge of the hull or has a support among them
abbrev pub AreClosed : NetworkParts → List ℕ → Type 0
AreClosed n es = All (λ e. (e < length n.edges) × (IsHullNumber n e ⊎ IsSupported n es e)) es

-- The edges es are the live ones: they are closed, and have every edge of the hull and each member of every closed list.
pub record AreLive (n : NetworkParts) (es : List ℕ) : Type 0 where
  pub closed : AreClosed n es
  pub hull_edges : (e : ℕ) → e < length n.edges → IsHullNumber n e → Contains es e
  pub greatest : (fs : List ℕ) → AreClosed n fs → All (Contains es) fs

-- the edge e is dead: no closed edges have it
abbrev pub IsDead : NetworkParts → ℕ → Type 0
IsDead n e = (es : List ℕ) → AreClosed n es → ¬ Contains es e

-- the edge e is broken by the edges seen: each locally minimal pair of it has another side among these
abbrev pub IsBroken : NetworkParts → List ℕ → ℕ → Type 0
IsBroken n seen e = (l r : ℕ) → IsMinimalPair n e l r → Any (IsOtherSide n e l r) seen
