-- The empty triangles over a list of edges, as far as they are enumerated.
use Rattle.std.specs.Prelude.{◌≡◌, ◌⊎◌, ℕ, ◌+◌, ◌*◌, ◌/◌, ◌<◌, ◌≤◌, List, ◌++◌, length, slice_index, slice_index_or, All, AllPairs, Contains, pos, ◌<ℤ◌}
use Rattle.exact_predicates.specs.declared.edge.Edge.{Edge}
use Rattle.exact_predicates.specs.declared.point.Point.{Point}
use Rattle.exact_predicates.specs.declared.tri.Tri.{Tri}
use Rattle.exact_predicates.specs.Plane.{orient, IsInClosedTriangle}
use Rattle.exact_predicates.specs.PointSet.{point_at}
use Rattle.exact_predicates.specs.Candidates.{EdgePrecedes, TriPrecedes, HasEdge, IsEmptyOver}
use Rattle.point_grid.specs.Listing.{IsListing}

-- the edges before the place k are those with lesser ends below a
pub record IsStartOf (es : List Edge) (a k : ℕ) : Type 0 where
  pub within : k ≤ length es
  pub before : (i : ℕ) (d : Edge) → i < k → (slice_index_or es i d).a < a
  pub after : (i : ℕ) (d : Edge) → k ≤ i → i < length es → a ≤ (slice_index_or es i d).a

-- the edges ascend, and these are the places where those of each lesser end begin
pub record AreStarts (es : List Edge) (starts : List ℕ) : Type 0 where
  pub ascending : AllPairs EdgePrecedes es
  pub each : (a : ℕ) → a < length starts → IsStartOf es a (slice_index starts a)

-- the greater ends of the edges whose lesser end is a, ascending
pub record IsRow (es : List Edge) (a : ℕ) (row : List ℕ) : Type 0 where
  pub ascending : AllPairs ◌<◌ row
  pub each : All (λ b. (a < b) × HasEdge es a b) row
  pub all : (b : ℕ) → a < b → HasEdge es a b → Contains row b

-- those empty triangles over the edges es that are P, ascending
abbrev pub AreTrianglesWith : List Point → List Edge → (Tri → Type 0) → List Tri → Type 0
AreTrianglesWith ps es P ts = IsListing TriPrecedes (IsEmptyOver ps es) P ts

-- a, b and c turn to the left, and no other point lies in their triangle or on its rim
pub record IsBare (ps : List Point) (a b c : ℕ) : Type 0 where
  pub after : a < c
  pub c_in : c < length ps
  pub turns_left : pos 0 <ℤ orient (point_at ps a) (point_at ps b) (point_at ps c)
  pub bare : (r : ℕ) → r < length ps → IsInClosedTriangle (point_at ps a) (point_at ps b) (point_at ps c) (point_at ps r) → (r ≡ a) ⊎ ((r ≡ b) ⊎ (r ≡ c))

-- abc is an empty triangle, and its sides to c are among the edges es
pub record IsThird (ps : List Point) (es : List Edge) (a b c : ℕ) : Type 0 where
  pub bare : IsBare ps a b c
  pub ac : HasEdge es a c
  pub bc : HasEdge es b c

-- the third corners of such triangles with the corners a and b, in this turn
pub record AreThirds (ps : List Point) (es : List Edge) (a b : ℕ) (cs : List ℕ) : Type 0 where
  pub each : All (IsThird ps es a b) cs
  pub all : (c : ℕ) → IsThird ps es a b c → Contains cs c

-- the triangles with the corners a and b and each of these third corners
pub record IsFan (a b : ℕ) (cs : List ℕ) (ts : List Tri) : Type 0 where
  pub count : length ts ≡ length cs
  pub each : (k : ℕ) (d : Tri) → k < length ts → let t = slice_index_or ts k d in (t.a ≡ a) × (t.b ≡ b) × (t.c ≡ slice_index cs k)

-- which come after the old ones
pub record IsFanAdded (a b : ℕ) (cs : List ℕ) (old new : List Tri) : Type 0 where
  pub fan : List Tri
  pub is : new ≡ old ++ fan
  pub each : IsFan a b cs fan

-- The first corners are shared in groups of eight that follow each other: the group of t.
abbrev pub group_of : Tri → ℕ
group_of t = t.a / 8

-- t is of the group, and its first corner comes before a
abbrev pub IsBefore : ℕ → ℕ → Tri → Type 0
IsBefore group a t = (group_of t ≡ group) × (t.a < a)

-- what is asked where the triangles of a group are listed
pub record IsReady (ps held : List Point) (es : List Edge) (starts : List ℕ) (group : ℕ) : Type 0 where
  pub grid : held ≡ ps
  pub within : All (λ e. e.b < length ps) es
  pub starts_are : AreStarts es starts
  pub count : length starts ≡ length ps + 1
  pub group_in : 8 * group < length ps
