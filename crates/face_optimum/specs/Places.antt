-- Places of a face: a face of k sides has the places 0 to k-1, with the points at which its sides start, and its sides go from
-- each place to the next and from the last to the first. What of the live edges and triangles sits at which places.
use Rattle.std.specs.Prelude.{◌≡◌, ◌⊎◌, ℕ, ◌+◌, ◌-◌, ◌<◌, List, [], length, slice_index, slice_index_or, Contains, pos, ◌≤ℤ◌, ◌<ℤ◌}
use Rattle.exact_predicates.specs.declared.edge.Edge.{Edge}
use Rattle.exact_predicates.specs.declared.point.Point.{Point}
use Rattle.exact_predicates.specs.declared.tri.Tri.{Tri}
use Rattle.exact_predicates.specs.Plane.{orient}
use Rattle.exact_predicates.specs.PointSet.{point_at}
use Rattle.exact_predicates.specs.Triangulation.{HasCorners}
use Rattle.exact_predicates.specs.Candidates.{Joins}
use Rattle.skeleton_faces.specs.Faces.{round_at}

-- the face of a number
abbrev pub face_at : List (List ℕ) → ℕ → List ℕ
face_at faces f = slice_index_or faces f []

-- the point of the place next to the place i, and of the place before it, both round the face
abbrev pub next_point : List ℕ → ℕ → ℕ
next_point face i = round_at face (i + 1)

abbrev pub point_before : List ℕ → ℕ → ℕ
point_before face i = round_at face (i + (length face - 1))

-- Seen from v, with x next and z before, q is in the angle of the face on the left of z to v to x. Where this turns to the
-- left, q lies strictly to the left of v to x and strictly to the right of v to z. Else q does not lie in the closed angle
-- that is left out, from z to x.
abbrev pub IsBetweenRays : Point → Point → Point → Point → Type 0
IsBetweenRays v x z q =
    ((pos 0 <ℤ orient v x z) × ((pos 0 <ℤ orient v x q) × (pos 0 <ℤ orient v q z)))
    ⊎ ((orient v x z ≤ℤ pos 0) × (¬ ((pos 0 ≤ℤ orient v z q) × (pos 0 ≤ℤ orient v q x))))

-- the point q is in the angle at the place i of the face
abbrev pub IsInAngle : List Point → List ℕ → ℕ → ℕ → Type 0
IsInAngle ps face i q = IsBetweenRays (point_at ps (slice_index face i)) (point_at ps (next_point face i)) (point_at ps (point_before face i)) (point_at ps q)

-- The edge e sits at the places i and l of the face: these are its ends, each in the angle at the other's place.
pub record IsEdgeAt (ps : List Point) (face : List ℕ) (i l : ℕ) (e : Edge) : Type 0 where
  pub below : i < l
  pub last_in : l < length face
  pub ends : Joins e (slice_index face i) (slice_index face l)
  pub first_angle : IsInAngle ps face i (slice_index face l)
  pub last_angle : IsInAngle ps face l (slice_index face i)

-- a side of the face goes from the place i to the place l, or from l to i, of which i is the lesser
abbrev pub IsFaceSide : List ℕ → ℕ → ℕ → Type 0
IsFaceSide face i l = (l ≡ i + 1) ⊎ ((i ≡ 0) × (l + 1 ≡ length face))

-- e is a live edge outside the skeleton
abbrev pub IsOffSkeleton : List Edge → List Edge → Edge → Type 0
IsOffSkeleton live skeleton e = Contains live e × (¬ Contains skeleton e)

-- the places i and l of the face are joined: by a side of the face, or by a live edge outside the skeleton that sits at them
abbrev pub AreJoinedPlaces : List Point → List Edge → List Edge → List ℕ → ℕ → ℕ → Type 0
AreJoinedPlaces ps live skeleton face i l =
    IsFaceSide face i l ⊎ ((e : Edge) × IsOffSkeleton live skeleton e × IsEdgeAt ps face i l e)

-- The triangle t sits at the places i, j and l of the face: these are its corners in cyclic order, and its sides join them.
pub record IsTriAt (ps : List Point) (live skeleton : List Edge) (face : List ℕ) (i j l : ℕ) (t : Tri) : Type 0 where
  pub first_below : i < j
  pub middle_below : j < l
  pub last_in : l < length face
  pub corners : HasCorners t (slice_index face i) (slice_index face j) (slice_index face l)
  pub first_side : AreJoinedPlaces ps live skeleton face i j
  pub second_side : AreJoinedPlaces ps live skeleton face j l
  pub third_side : AreJoinedPlaces ps live skeleton face i l

-- The edge e sits at one pair of places of the faces, and at no other.
pub record IsEdgeAtOnePair (ps : List Point) (faces : List (List ℕ)) (e : Edge) : Type 0 where
  pub face : ℕ
  pub first : ℕ
  pub last : ℕ
  pub face_in : face < length faces
  pub sits : IsEdgeAt ps (face_at faces face) first last e
  pub only : (f i l : ℕ) → f < length faces → IsEdgeAt ps (face_at faces f) i l e → (f ≡ face) × (i ≡ first) × (l ≡ last)

-- The triangle t sits at one triple of places of the faces, and at no other.
pub record IsTriAtOneTriple (ps : List Point) (live skeleton : List Edge) (faces : List (List ℕ)) (t : Tri) : Type 0 where
  pub face : ℕ
  pub first : ℕ
  pub middle : ℕ
  pub last : ℕ
  pub face_in : face < length faces
  pub sits : IsTriAt ps live skeleton (face_at faces face) first middle last t
  pub only : (f i j l : ℕ) → f < length faces → IsTriAt ps live skeleton (face_at faces f) i j l t
      → (f ≡ face) × (i ≡ first) × (j ≡ middle) × (l ≡ last)
