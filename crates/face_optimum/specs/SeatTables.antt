-- The tables of what sits where, as they are filled pass after pass.
use Rattle.std.specs.Prelude.{◌≡◌, ◌≢◌, ◌⊎◌, ℕ, ◌+◌, ◌*◌, ◌%◌, ◌<◌, min, max, List, All, Bool, true, false, Option, None, Some, length, slice_index, slice_index_or, cond, nat_lt}
use Rattle.exact_predicates.specs.declared.edge.Edge.{Edge}
use Rattle.exact_predicates.specs.declared.point.Point.{Point}
use Rattle.exact_predicates.specs.declared.tri.Tri.{Tri}
use Rattle.exact_predicates.specs.Candidates.{HasEdge}
use Rattle.skeleton_faces.specs.Sides.{side_start, side_end}
use Rattle.lmt_network.specs.Network.{NetworkParts, edge_at, tri_at}
use Rattle.lmt_network.specs.Numbers.{IsNumberOf}
use Rattle.face_optimum.specs.declared.seat.EdgeSeat.{EdgeSeat}
use Rattle.face_optimum.specs.declared.seat.Link.{Link}
use Rattle.face_optimum.specs.declared.seat.SideSeat.{SideSeat}
use Rattle.face_optimum.specs.declared.seat.TriSeat.{TriSeat}
use Rattle.face_optimum.specs.Places.{face_at, next_point, IsEdgeAt}
use Rattle.face_optimum.specs.Seats.{IsLiveTri, tri_seat}

-- the points of the places are points of the problem
abbrev pub HavePointsIn : List Point → List (List ℕ) → Type 0
HavePointsIn ps faces = All (λ face. All (λ p. p < length ps) face) faces

-- the edge e is marked as a live one outside the skeleton
abbrev pub IsOffNumber : NetworkParts → List Bool → ℕ → Type 0
IsOffNumber n off e = (e < length n.edges) × (slice_index_or off e false ≡ true)

-- s is a seat of the edge e
abbrev pub IsSeatOf : List Point → List (List ℕ) → Edge → EdgeSeat → Type 0
IsSeatOf ps faces e s = (s.face < length faces) × IsEdgeAt ps (face_at faces s.face) s.first s.last e

-- the seat that a table has of the edge e
abbrev pub seat_at : List (Option EdgeSeat) → ℕ → Option EdgeSeat
seat_at seats e = slice_index_or seats e None

-- each seat of a table is a seat of its edge
pub record AreSeats (n : NetworkParts) (faces : List (List ℕ)) (seats : List (Option EdgeSeat)) : Type 0 where
  pub one_each : length seats ≡ length n.edges
  pub sound : (e : ℕ) (s : EdgeSeat) → seat_at seats e ≡ Some s → IsSeatOf n.points faces (edge_at n e) s

-- After a pass over the seats that are P, the table has those that are seats of edges outside the skeleton.
pub record AreSeated (n : NetworkParts) (faces : List (List ℕ)) (off : List Bool) (P : EdgeSeat → Type 0) (before after : List (Option EdgeSeat)) : Type 0 where
  pub seats : AreSeats n faces after
  pub kept : (e : ℕ) (s : EdgeSeat) → seat_at before e ≡ Some s → seat_at after e ≡ Some s
  pub all : (e : ℕ) (s : EdgeSeat) → P s → IsOffNumber n off e → IsSeatOf n.points faces (edge_at n e) s → seat_at after e ≡ Some s

-- some edge outside the skeleton has two seats
pub record HasTwoSeats (n : NetworkParts) (faces : List (List ℕ)) (off : List Bool) : Type 0 where
  pub edge : ℕ
  pub one : EdgeSeat
  pub other : EdgeSeat
  pub is_off : IsOffNumber n off edge
  pub one_is : IsSeatOf n.points faces (edge_at n edge) one
  pub other_is : IsSeatOf n.points faces (edge_at n edge) other
  pub apart : one ≢ other

-- some edge outside the skeleton has two seats, or none
abbrev pub LacksOneSeat : NetworkParts → List (List ℕ) → List Bool → Type 0
LacksOneSeat n faces off =
    HasTwoSeats n faces off ⊎ ((e : ℕ) × IsOffNumber n off e × ((s : EdgeSeat) → ¬ IsSeatOf n.points faces (edge_at n e) s))

-- The seats of the edges outside the skeleton: each of these has one and no other.
pub record AreEdgeSeats (n : NetworkParts) (faces : List (List ℕ)) (off : List Bool) (seats : List (Option EdgeSeat)) : Type 0 where
  pub seats_are : AreSeats n faces seats
  pub some : (e : ℕ) → IsOffNumber n off e → (s : EdgeSeat) × (seat_at seats e ≡ Some s)
  pub all : (e : ℕ) (s : EdgeSeat) → IsOffNumber n off e → IsSeatOf n.points faces (edge_at n e) s → seat_at seats e ≡ Some s

-- the side u to v stands at the place s of a face
pub record IsSideSeat (faces : List (List ℕ)) (u v : ℕ) (s : SideSeat) : Type 0 where
  pub face_in : s.face < length faces
  pub place_in : s.place < length (face_at faces s.face)
  pub from : slice_index (face_at faces s.face) s.place ≡ u
  pub to : next_point (face_at faces s.face) s.place ≡ v

-- no side stands at two places
abbrev pub HaveSidesOnce : List (List ℕ) → Type 0
HaveSidesOnce faces = (u v : ℕ) (s t : SideSeat) → IsSideSeat faces u v s → IsSideSeat faces u v t → s ≡ t

-- the number of the side from u to v of the edge e
abbrev pub side_key : ℕ → ℕ → ℕ → ℕ
side_key e u v = 2 * e + cond (nat_lt u v) 0 1

-- the place that a table has of the side k
abbrev pub side_at : List (Option SideSeat) → ℕ → Option SideSeat
side_at seats k = slice_index_or seats k None

-- each place of a table is that of its side
pub record AreSideSeats (n : NetworkParts) (faces : List (List ℕ)) (seats : List (Option SideSeat)) : Type 0 where
  pub one_each : length seats ≡ 2 * length n.edges
  pub sound : (k : ℕ) (s : SideSeat) → side_at seats k ≡ Some s → IsSideSeat faces (side_start n.edges k) (side_end n.edges k) s

-- After a pass over the places that are P, the table has them.
pub record AreSidesSeated (n : NetworkParts) (faces : List (List ℕ)) (P : SideSeat → Type 0) (before after : List (Option SideSeat)) : Type 0 where
  pub seats : AreSideSeats n faces after
  pub kept : (k : ℕ) (s : SideSeat) → side_at before k ≡ Some s → side_at after k ≡ Some s
  pub all : (k : ℕ) (s : SideSeat) → P s → k < 2 * length n.edges → IsSideSeat faces (side_start n.edges k) (side_end n.edges k) s → side_at after k ≡ Some s

-- Where the sides of the faces stand: each of them, and no other.
pub record AreAllSides (n : NetworkParts) (faces : List (List ℕ)) (seats : List (Option SideSeat)) : Type 0 where
  pub seats_are : AreSideSeats n faces seats
  pub all : (k : ℕ) (s : SideSeat) → k < 2 * length n.edges → IsSideSeat faces (side_start n.edges k) (side_end n.edges k) s → side_at seats k ≡ Some s

-- The link x leads along a side from u to v: round its face to the next place, or along an edge outside the skeleton that
-- sits at its two places.
pub record IsLink (n : NetworkParts) (faces : List (List ℕ)) (off : List Bool) (u v : ℕ) (x : Link) : Type 0 where
  pub face_in : x.face < length faces
  pub from_in : x.from < length (face_at faces x.face)
  pub to_in : x.to < length (face_at faces x.face)
  pub from : slice_index (face_at faces x.face) x.from ≡ u
  pub to : slice_index (face_at faces x.face) x.to ≡ v
  pub along : ((x.from + 1) % length (face_at faces x.face) ≡ x.to)
      ⊎ ((e : ℕ) × IsOffNumber n off e × IsEdgeAt n.points (face_at faces x.face) (min x.from x.to) (max x.from x.to) (edge_at n e))

-- The three links go round the places of s: from the first to the middle, to the last and back to the first, begun with
-- any of them.
abbrev pub AreFromFirst : TriSeat → Link → Link → Link → Type 0
AreFromFirst s x y z =
    (x ≡ record { face = s.face; from = s.first; to = s.middle })
    × ((y ≡ record { face = s.face; from = s.middle; to = s.last })
    × (z ≡ record { face = s.face; from = s.last; to = s.first }))

pub record AreRound (s : TriSeat) (x y z : Link) : Type 0 where
  pub below : s.first < s.middle
  pub above : s.middle < s.last
  pub round : AreFromFirst s x y z ⊎ (AreFromFirst s y z x ⊎ AreFromFirst s z x y)

-- s is a seat of the triangle t, by links along its three sides
pub record IsTriLinked (n : NetworkParts) (faces : List (List ℕ)) (off : List Bool) (t : Tri) (s : TriSeat) : Type 0 where
  pub ab : Link
  pub bc : Link
  pub ca : Link
  pub ab_is : IsLink n faces off t.a t.b ab
  pub bc_is : IsLink n faces off t.b t.c bc
  pub ca_is : IsLink n faces off t.c t.a ca
  pub round : AreRound s ab bc ca

-- The seats of the first `count` triangles that are live: each has one and no other. Of other triangles a table says nothing.
pub record AreTriSeats (n : NetworkParts) (flags : List Bool) (faces : List (List ℕ)) (off : List Bool) (count : ℕ) (seats : List TriSeat) : Type 0 where
  pub one_each : length seats ≡ count
  pub each : (t : ℕ) → t < count → IsLiveTri n flags t → IsTriLinked n faces off (tri_at n t) (tri_seat seats t)
  pub only : (t : ℕ) (s : TriSeat) → t < count → IsLiveTri n flags t → IsTriLinked n faces off (tri_at n t) s → s ≡ tri_seat seats t

-- the triangle t is live, and has its first and its last place at those of s
abbrev pub IsLiveBetween : NetworkParts → List Bool → List TriSeat → EdgeSeat → ℕ → Type 0
IsLiveBetween n flags seats s t =
    IsLiveTri n flags t
    × (((tri_seat seats t).face ≡ s.face) × ((tri_seat seats t).first ≡ s.first) × ((tri_seat seats t).last ≡ s.last))

-- there is such a triangle
abbrev pub HasSeatBetween : NetworkParts → List Bool → List TriSeat → EdgeSeat → Type 0
HasSeatBetween n flags seats s = (t : ℕ) × (t < length n.tris) × IsLiveBetween n flags seats s t

-- there is one at the seat of the edge e, if e is a live edge outside the skeleton
abbrev pub HasPairTri : NetworkParts → List Bool → List Bool → List (Option EdgeSeat) → List TriSeat → ℕ → Type 0
HasPairTri n flags off edges tris e = (s : EdgeSeat) → IsOffNumber n off e → seat_at edges e ≡ Some s → HasSeatBetween n flags tris s

-- the sides of the faces are edges of the skeleton
abbrev pub AreSidesIn : List Edge → List (List ℕ) → Type 0
AreSidesIn skeleton faces = (u v : ℕ) (s : SideSeat) → IsSideSeat faces u v s → HasEdge skeleton u v

-- no side of a face is an edge outside the skeleton
abbrev pub AreSidesOn : NetworkParts → List (List ℕ) → List Bool → Type 0
AreSidesOn n faces off = (u v e : ℕ) (s : SideSeat) → IsSideSeat faces u v s → IsNumberOf n u v e → slice_index_or off e false ≡ false

-- some live triangle has no seat
abbrev pub HasTriNowhere : NetworkParts → List Bool → List (List ℕ) → List Bool → Type 0
HasTriNowhere n flags faces off =
    (t : ℕ) × (t < length n.tris) × IsLiveTri n flags t × ((s : TriSeat) → ¬ IsTriLinked n faces off (tri_at n t) s)
