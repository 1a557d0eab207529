-- Candidate edges, and the empty triangles that they bound.
use Rattle.std.specs.Prelude.{◌≡◌, ◌≢◌, ◌⊎◌, ℕ, ◌<◌, min, max, ⊤, List, length, All, AllPairs, Any, Contains}
use Rattle.std.specs.Ordering.{nat_cmp, ordering_then}
use Rattle.std.specs.declared.cmp.Ordering.{Ordering}
use Rattle.exact_predicates.specs.declared.diamond.Diamond.{Diamond}
use Rattle.exact_predicates.specs.declared.diamond.Diamond.TheVariants.{Off, On}
use Rattle.exact_predicates.specs.declared.edge.Edge.{Edge}
use Rattle.exact_predicates.specs.declared.point.Point.{Point}
use Rattle.exact_predicates.specs.declared.tri.Tri.{Tri}
use Rattle.exact_predicates.specs.Hull.{IsHullPair}
use Rattle.exact_predicates.specs.Plane.{IsBetween, IsInLeftDiamond}
use Rattle.exact_predicates.specs.PointSet.{point_at}
use Rattle.exact_predicates.specs.Triangulation.{IsEmpty}

-- e comes before the edge with the ends a and b: by the lesser end, then by the greater
abbrev pub IsEdgeBefore : ℕ → ℕ → Edge → Type 0
IsEdgeBefore a b e = (e.a < a) ⊎ ((e.a ≡ a) × (e.b < b))

-- the order of edges
abbrev pub EdgePrecedes : Edge → Edge → Type 0
EdgePrecedes e f = IsEdgeBefore f.a f.b e

-- the same, as the type compares them
abbrev pub edge_cmp : Edge → Edge → Ordering
edge_cmp e f = ordering_then (nat_cmp e.a f.a) (nat_cmp e.b f.b)

-- the order of triangles: by a, then by b, then by c
abbrev pub TriPrecedes : Tri → Tri → Type 0
TriPrecedes s t = (s.a < t.a) ⊎ (((s.a ≡ t.a) × (s.b < t.b)) ⊎ ((s.a ≡ t.a) × (s.b ≡ t.b) × (s.c < t.c)))

-- e is the edge with the ends u and v
abbrev pub Joins : Edge → ℕ → ℕ → Type 0
Joins e u v = (e.a ≡ min u v) × (e.b ≡ max u v)

-- the edge with the ends u and v is among these
abbrev pub HasEdge : List Edge → ℕ → ℕ → Type 0
HasEdge es u v = Any (λ e. Joins e u v) es

-- no point lies in the left diamond of p to q
abbrev pub IsDiamondEmpty : List Point → ℕ → ℕ → Type 0
IsDiamondEmpty ps p q = (r : ℕ) → r < length ps → ¬ IsInLeftDiamond (point_at ps p) (point_at ps q) (point_at ps r)

-- e passes the diamond test: it is a pair of the hull, in one direction or the other, or one of its two diamonds is empty. With
-- the test off each edge passes.
abbrev pub PassesDiamond : Diamond → List Point → List ℕ → Edge → Type 0
PassesDiamond Off ps hull e = ⊤
PassesDiamond On ps hull e = (IsHullPair hull e.a e.b ⊎ IsHullPair hull e.b e.a) ⊎ (IsDiamondEmpty ps e.a e.b ⊎ IsDiamondEmpty ps e.b e.a)

-- e is a candidate edge of the points ps with this hull: no point is between its ends, and it passes the test
pub record IsCandidate (ps : List Point) (hull : List ℕ) (diamond : Diamond) (e : Edge) : Type 0 where
  pub b_in : e.b < length ps
  pub clear : (r : ℕ) → r < length ps → ¬ IsBetween (point_at ps e.a) (point_at ps e.b) (point_at ps r)
  pub passes : PassesDiamond diamond ps hull e

-- The candidate edges, ascending.
pub record AreCandidates (ps : List Point) (hull : List ℕ) (diamond : Diamond) (es : List Edge) : Type 0 where
  pub ascending : AllPairs EdgePrecedes es
  pub each : All (IsCandidate ps hull diamond) es
  pub all : (e : Edge) → IsCandidate ps hull diamond e → Contains es e

-- t is an empty triangle of the points ps, and its three sides are among the edges es
pub record IsEmptyOver (ps : List Point) (es : List Edge) (t : Tri) : Type 0 where
  pub empty : IsEmpty ps t
  pub ab : HasEdge es t.a t.b
  pub bc : HasEdge es t.b t.c
  pub ca : HasEdge es t.c t.a

-- The empty triangles whose sides are among the edges es, ascending.
pub record AreTrianglesOver (ps : List Point) (es : List Edge) (ts : List Tri) : Type 0 where
  pub ascending : AllPairs TriPrecedes ts
  pub each : All (IsEmptyOver ps es) ts
  pub all : (t : Tri) → IsEmptyOver ps es t → Contains ts t

-- more than `limit` things are P: some distinct ones are
pub record AreMoreThan {X : Type 0} (P : X → Type 0) (limit : ℕ) : Type 0 where
  pub some : List X
  pub distinct : AllPairs (λ x y. x ≢ y) some
  pub each : All P some
  pub more : limit < length some
