-- What is known where a skeleton decomposes.
use Rattle.std.specs.Prelude.{◌≡◌, ℕ, List, Bool, length}
use Rattle.exact_predicates.specs.declared.edge.Edge.{Edge}
use Rattle.lmt_network.specs.Network.{NetworkParts}
use Rattle.face_optimum.specs.declared.table.Seats.{Seats}
use Rattle.face_optimum.specs.Seats.{AreOff}
use Rattle.face_optimum.specs.SeatTables.{AreEdgeSeats, AreTriSeats}

-- the tables are those of these faces
pub record AreKnown (n : NetworkParts) (flags : List Bool) (skeleton : List Edge) (faces : List (List ℕ)) (seats : Seats) : Type 0 where
  pub rings : seats.rings ≡ faces
  pub off : AreOff n flags skeleton seats.off.items
  pub edges : AreEdgeSeats n faces seats.off.items seats.edges.items
  pub tris : AreTriSeats n flags faces seats.off.items (length n.tris) seats.tris.items
