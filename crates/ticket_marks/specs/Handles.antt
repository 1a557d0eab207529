-- What contracts see of the tickets and of a seat.
use Rattle.std.specs.Prelude.{◌≡◌, ℕ, List, length}
use Rattle.std.specs.Global.{Vec}
use Rattle.atomic_table.specs.Seated.{TableId}
use Rattle.lmt_network.specs.Network.{NetworkParts}
use Rattle.mark_seats.specs.Keeping.{IsKeeping}
use Rattle.ticket_marks.specs.declared.view.Drawn.TheVariants.{NoTicket}
use Rattle.ticket_marks.specs.declared.view.Known.{Known}
use Rattle.ticket_marks.specs.Rule.{notes_of}

-- a seat: the table that it belongs to, its number there, and what it knows
pub record SeatView : Type 0 where
  pub table : TableId
  pub id : ℕ
  pub known : Known

-- the tickets: their table, and the network and the number of seats that they were opened with
pub record TicketsView : Type 0 where
  pub table : TableId
  pub net : NetworkParts
  pub seats : ℕ

-- the seat belongs to the tickets
abbrev pub Belongs : TicketsView → SeatView → Type 0
Belongs m s = (s.table ≡ m.table) × (s.known.net ≡ m.net)

-- s and t are the same seat, maybe at different times
abbrev pub IsSameSeat : SeatView → SeatView → Type 0
IsSameSeat s t = (t.table ≡ s.table) × (t.id ≡ s.id)

-- What a seat keeps beside its place at the table. Between calls it has no ticket.
pub record IsSeated (known : Known) (carried : List (ℕ × ℕ)) (slot : ℕ) (bits : List ℕ) (spare : List (Vec ℕ)) : Type 0 where
  pub idle : known.drawn ≡ NoTicket
  pub keeps : IsKeeping (length known.net.edges) (notes_of known) known.tried carried slot bits spare
