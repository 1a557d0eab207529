-- The half-edges of a list of triangles, and what is tested of them.
use Rattle.std.specs.Prelude.{◌≡◌, ◌⊎◌, ℕ, ◌<◌, ◌≤◌, Bool, List, [], ◌∷◌, length, flat_map, filter, count_by, All, Any, Contains}
use Rattle.std.specs.List.Sorted.{IsSortedByKey}
use Rattle.std.specs.Ordering.{nat_cmp, ordering_then}
use Rattle.std.specs.declared.cmp.Ordering.{Ordering}
use Rattle.exact_predicates.specs.declared.point.Point.{Point}
use Rattle.exact_predicates.specs.declared.tri.Tri.{Tri}
use Rattle.exact_predicates.specs.Flip.{IsMinimalBetween}
use Rattle.exact_predicates.specs.Triangulation.{is_side}
use Rattle.cert_text.specs.declared.report.Method.{Method}
use Rattle.cert_text.specs.declared.report.Method.TheVariants.{Flips}
use Rattle.dual_checker.specs.declared.half_edges.HalfEdge.{HalfEdge}
use Rattle.dual_checker.specs.declared.half_edges.Side.{Side}

-- the side from u to v with its apex w
abbrev pub half_edge : ℕ → ℕ → ℕ → HalfEdge
half_edge u v w = record { side = record { from = u; to = v }; apex = w }

-- the three half-edges of a triangle
abbrev pub half_edges_of : Tri → List HalfEdge
half_edges_of t = half_edge t.a t.b t.c ∷ half_edge t.b t.c t.a ∷ half_edge t.c t.a t.b ∷ []

-- those of all triangles
abbrev pub half_edges : List Tri → List HalfEdge
half_edges tris = flat_map half_edges_of tris

-- whether h is on the side s
abbrev pub is_on : Side → HalfEdge → Bool
is_on s h = is_side s.from s.to (h.side.from, h.side.to)

-- the order of sides: by the first end, then by the second
abbrev pub side_cmp : Side → Side → Ordering
side_cmp s t = ordering_then (nat_cmp s.from t.from) (nat_cmp s.to t.to)

-- half-edges in the order of their sides
abbrev pub AreBySide : List HalfEdge → Type 0
AreBySide halves = IsSortedByKey (λ h. h.side) side_cmp halves

-- a side by its two ends
abbrev pub side_of : ℕ × ℕ → Side
side_of s = record { from = s.0; to = s.1 }

-- the same side in the other direction
abbrev pub reversed : Side → Side
reversed s = record { from = s.to; to = s.from }

-- a side occurs once, and never the other way round
abbrev pub IsCoveredOnce : List HalfEdge → Side → Type 0
IsCoveredOnce halves s = (count_by (is_on s) halves ≡ 1) × (count_by (is_on (reversed s)) halves ≡ 0)

-- a side is a pair of the hull, or it occurs as often as the other way round
abbrev pub IsBalancedAt : List HalfEdge → List Side → Side → Type 0
IsBalancedAt halves rim s = Contains rim s ⊎ (count_by (is_on s) halves ≡ count_by (is_on (reversed s)) halves)

-- a side is locally minimal between a triangle with the apex a and one of these on its other side
abbrev pub HasMinimalWith : List Point → Side → ℕ → List HalfEdge → Type 0
HasMinimalWith ps s a rights = Any (λ r. IsMinimalBetween ps s.from s.to a r.apex) rights

-- it is so between one of these and one of those
abbrev pub HasMinimal : List Point → Side → List HalfEdge → List HalfEdge → Type 0
HasMinimal ps s lefts rights = Any (λ l. HasMinimalWith ps s l.apex rights) lefts

-- a side goes down, or is a pair of the hull, or is locally minimal between two triangles
abbrev pub IsMinimalAt : List Point → List HalfEdge → List Side → Side → Type 0
IsMinimalAt ps halves rim s =
    (s.to ≤ s.from) ⊎ (Contains rim s ⊎ HasMinimal ps s (filter (is_on s) halves) (filter (is_on (reversed s)) halves))

-- the ends of a half-edge and its apex are points
pub record IsWithinPoints (ps : List Point) (h : HalfEdge) : Type 0 where
  pub from : h.side.from < length ps
  pub to : h.side.to < length ps
  pub apex : h.apex < length ps

-- half-edges fit one another and the pairs of the hull, and where the method is flips, no flip makes one of them shorter
pub record AreFitting (ps : List Point) (halves : List HalfEdge) (rim : List Side) (method : Method) : Type 0 where
  pub covered : All (IsCoveredOnce halves) rim
  pub balanced : All (λ h. IsBalancedAt halves rim h.side) halves
  pub minimal : method ≡ Flips → All (λ h. IsMinimalAt ps halves rim h.side) halves
