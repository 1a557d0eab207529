-- What is live, and where it sits as tables say it, by the numbers of a network's edges and triangles.
use Rattle.std.specs.Prelude.{◌≡◌, ◌↔◌, ℕ, ◌-◌, ◌<◌, List, Bool, true, false, Option, None, Some, length, slice_index, slice_index_or, unwrap_or}
use Rattle.exact_predicates.specs.declared.edge.Edge.{Edge}
use Rattle.exact_predicates.specs.Candidates.{IsEmptyOver}
use Rattle.lmt_network.specs.Flags.{live_edges}
use Rattle.lmt_network.specs.Network.{NetworkParts, edge_at, tri_at}
use Rattle.lmt_network.specs.Numbers.{HasSide}
use Rattle.face_optimum.specs.declared.seat.EdgeSeat.{EdgeSeat}
use Rattle.face_optimum.specs.declared.seat.TriSeat.{TriSeat}
use Rattle.face_optimum.specs.Places.{IsEdgeAt, IsOffSkeleton, IsTriAt, face_at}

-- t is a live triangle
abbrev pub IsLiveTri : NetworkParts → List Bool → ℕ → Type 0
IsLiveTri n flags t = (t < length n.tris) × IsEmptyOver n.points (live_edges n flags) (tri_at n t)

-- some live triangle has the side u to v
abbrev pub HasLiveTriOn : NetworkParts → List Bool → ℕ → ℕ → Type 0
HasLiveTriOn n flags u v = (t : ℕ) × IsLiveTri n flags t × HasSide (tri_at n t) u v

-- e is a live edge outside the skeleton
abbrev pub IsOff : NetworkParts → List Bool → List Edge → ℕ → Type 0
IsOff n flags skeleton e = (e < length n.edges) × IsOffSkeleton (live_edges n flags) skeleton (edge_at n e)

-- of each edge, whether it is one
pub record AreOff (n : NetworkParts) (flags : List Bool) (skeleton : List Edge) (off : List Bool) : Type 0 where
  pub one_each : length off ≡ length n.edges
  pub each : (e : ℕ) → (slice_index_or off e false ≡ true) ↔ IsOff n flags skeleton e

-- the seat of the edge e in a table
abbrev pub edge_seat : List (Option EdgeSeat) → ℕ → EdgeSeat
edge_seat seats e = unwrap_or (slice_index_or seats e None) (record { face = 0; first = 0; last = 0 })

-- the seat of the triangle t
abbrev pub tri_seat : List TriSeat → ℕ → TriSeat
tri_seat seats t = slice_index_or seats t (record { face = 0; first = 0; middle = 0; last = 0 })

-- how many sides of its face lie between the places of an edge
abbrev pub span : List (Option EdgeSeat) → ℕ → ℕ
span seats e = (edge_seat seats e).last - (edge_seat seats e).first

-- the points of its two places
abbrev pub first_point : List (List ℕ) → List (Option EdgeSeat) → ℕ → ℕ
first_point faces seats e = slice_index (face_at faces (edge_seat seats e).face) (edge_seat seats e).first

abbrev pub last_point : List (List ℕ) → List (Option EdgeSeat) → ℕ → ℕ
last_point faces seats e = slice_index (face_at faces (edge_seat seats e).face) (edge_seat seats e).last

-- The seats of the live edges outside the skeleton. Of other edges a table says nothing.
pub record HaveEdgeSeats (n : NetworkParts) (flags : List Bool) (skeleton : List Edge) (faces : List (List ℕ)) (seats : List (Option EdgeSeat)) : Type 0 where
  pub one_each : length seats ≡ length n.edges
  pub there : (e : ℕ) → IsOff n flags skeleton e → slice_index_or seats e None ≡ Some (edge_seat seats e)
  pub face_in : (e : ℕ) → IsOff n flags skeleton e → (edge_seat seats e).face < length faces
  pub sits : (e : ℕ) → IsOff n flags skeleton e
      → IsEdgeAt n.points (face_at faces (edge_seat seats e).face) (edge_seat seats e).first (edge_seat seats e).last (edge_at n e)

-- The seats of the live triangles.
pub record HaveTriSeats (n : NetworkParts) (flags : List Bool) (skeleton : List Edge) (faces : List (List ℕ)) (seats : List TriSeat) : Type 0 where
  pub one_each : length seats ≡ length n.tris
  pub face_in : (t : ℕ) → IsLiveTri n flags t → (tri_seat seats t).face < length faces
  pub sits : (t : ℕ) → IsLiveTri n flags t
      → IsTriAt n.points (live_edges n flags) skeleton (face_at faces (tri_seat seats t).face) (tri_seat seats t).first (tri_seat seats t).middle (tri_seat seats t).last (tri_at n t)
