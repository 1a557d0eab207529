-- Whether the skeleton of the live edges decomposes: whether it cuts the inside of the hull into faces at whose places each
-- other live edge and each live triangle sits once.
use Rattle.std.specs.Prelude.{◌≡◌, ℕ, ◌+◌, ◌-◌, ◌*◌, ◌<◌, ◌≤◌, Bool, not, List, [], ◌∷◌, length, filter, sum_by, slice_index, All, Contains}
use Rattle.std.specs.List.{list_any}
use Rattle.exact_predicates.specs.declared.edge.Edge.{Edge}
use Rattle.exact_predicates.specs.declared.point.Point.{Point}
use Rattle.exact_predicates.specs.declared.tri.Tri.{Tri}
use Rattle.exact_predicates.specs.Hull.{ring_pairs, IsHullPair}
use Rattle.exact_predicates.specs.Triangulation.{hit, is_side}
use Rattle.exact_predicates.specs.Candidates.{IsEmptyOver}
use Rattle.skeleton_faces.specs.Walks.{IsConnected}
use Rattle.face_optimum.specs.Places.{face_at, IsOffSkeleton, IsEdgeAt, IsTriAt, IsEdgeAtOnePair, IsTriAtOneTriple}

-- whether the cycle holds the side from the hull's second point to its first
abbrev pub is_outer : List ℕ → List ℕ → Bool
is_outer hull cycle = list_any (is_side (slice_index hull 1) (slice_index hull 0)) (ring_pairs cycle)

-- the bounded faces: all but that one
abbrev pub bounded_faces : List ℕ → List (List ℕ) → List (List ℕ)
bounded_faces hull cycles = filter (λ c. not (is_outer hull c)) cycles

-- the sides of the cycle are exactly the reversed pairs of the hull, each once
pub record IsRim (hull cycle : List ℕ) : Type 0 where
  pub once : (u v : ℕ) → IsHullPair hull u v → sum_by (hit v u) (ring_pairs cycle) ≡ 1
  pub only : (u v : ℕ) → Contains (ring_pairs cycle) (v, u) → IsHullPair hull u v

-- One cycle is left out, and it is the rim.
pub record IsHullLeftOut (hull : List ℕ) (cycles : List (List ℕ)) : Type 0 where
  pub outer : List ℕ
  pub one : filter (is_outer hull) cycles ≡ outer ∷ []
  pub rim : IsRim hull outer

-- the face has from 3 to `most` places
abbrev pub IsSized : ℕ → List ℕ → Type 0
IsSized most face = (3 ≤ length face) × (length face ≤ most)

-- some live triangle sits at the places i and l of the face, with its third place between them
abbrev pub HasTriBetween : List Point → List Edge → List Edge → List ℕ → ℕ → ℕ → Type 0
HasTriBetween ps live skeleton face i l = (t : Tri) × (j : ℕ) × IsEmptyOver ps live t × IsTriAt ps live skeleton face i j l t

-- The skeleton cuts the inside of the hull into faces.
-- connected: it joins all points.
-- outer: one of its cycles is left out, and the sides of this are exactly the reversed pairs of the hull, each once.
-- sizes: each bounded face has from 3 to `most` places.
-- count: the numbers of places of the bounded faces, each less two, add up to the number of triangles of a triangulation.
pub record IsCut (ps : List Point) (hull : List ℕ) (skeleton : List Edge) (cycles : List (List ℕ)) (most : ℕ) : Type 0 where
  pub connected : IsConnected ps skeleton
  pub outer : IsHullLeftOut hull cycles
  pub sizes : All (IsSized most) (bounded_faces hull cycles)
  pub count : sum_by (λ c. length c - 2) (bounded_faces hull cycles) + length hull + 2 ≡ 2 * length ps

-- The live edges and triangles fill the bounded faces.
-- edges: each live edge outside the skeleton sits at exactly one pair of places of all faces.
-- triangles: each live triangle sits at exactly one triple of places of all faces.
-- pairs: each pair of places at which such an edge sits has a live triangle with its third place between them.
-- roots: so has the pair of the first and the last place of each face.
pub record AreFilled (ps : List Point) (live skeleton : List Edge) (faces : List (List ℕ)) : Type 0 where
  pub edges : (e : Edge) → IsOffSkeleton live skeleton e → IsEdgeAtOnePair ps faces e
  pub triangles : (t : Tri) → IsEmptyOver ps live t → IsTriAtOneTriple ps live skeleton faces t
  pub pairs : (e : Edge) (f i l : ℕ) → IsOffSkeleton live skeleton e → f < length faces → IsEdgeAt ps (face_at faces f) i l e
      → HasTriBetween ps live skeleton (face_at faces f) i l
  pub roots : (f : ℕ) → f < length faces → HasTriBetween ps live skeleton (face_at faces f) 0 (length (face_at faces f) - 1)

-- The skeleton of the live edges decomposes into faces of at most `most` places: these eight conditions hold.
pub record Decomposes (ps : List Point) (hull : List ℕ) (live skeleton : List Edge) (cycles : List (List ℕ)) (most : ℕ) : Type 0 where
  pub cut : IsCut ps hull skeleton cycles most
  pub filled : AreFilled ps live skeleton (bounded_faces hull cycles)
