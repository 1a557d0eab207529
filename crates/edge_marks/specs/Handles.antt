-- What contracts see of the marks and of a seat.
use Rattle.std.specs.Prelude.{◌≡◌, ◌↔◌, ℕ, ◌<◌, Bool, true, false, List, length, slice_index_or, Any, Contains}
use mathlib.Core.Option.{some}
use lib.ListN.{get_elem?}
use Rattle.std.specs.Global.{Vec}
use Rattle.atomic_table.specs.Seated.{TableId}
use Rattle.atomic_table.specs.Table.{State}
use Rattle.lmt_network.specs.Network.{NetworkParts}
use Rattle.mark_seats.specs.Keeping.{IsKeeping}
use Rattle.edge_marks.specs.declared.view.Phase.TheVariants.{Idle}
use Rattle.edge_marks.specs.declared.view.Known.{Known}
use Rattle.edge_marks.specs.declared.view.About.{About}
use Rattle.edge_marks.specs.Words.{mark_of}
use Rattle.edge_marks.specs.Rule.{notes_of, MarksHold}

-- a seat: the table that it belongs to, its number there, and what it knows
pub record SeatView : Type 0 where
  pub table : TableId
  pub id : ℕ
  pub known : Known

-- the marks: their table, and the network and the number of seats that they were opened with
pub record MarksView : Type 0 where
  pub table : TableId
  pub net : NetworkParts
  pub seats : ℕ

-- the seat belongs to the marks
abbrev pub Belongs : MarksView → SeatView → Type 0
Belongs m s = (s.table ≡ m.table) × (s.known.net ≡ m.net)

-- A state of the words and the views in which the marks may be, as far as the seat knows: their rule holds, and the seat has its view.
pub record IsStateWith (m : MarksView) (seat : SeatView) (s : State ℕ Known) : Type 0 where
  pub about : About
  pub net_is : about.net.value ≡ m.net
  pub seats_are : about.seats ≡ m.seats
  pub rule : MarksHold about s
  pub seat_at : get_elem? s.views seat.id ≡ some seat.known

-- The flags show which edges are killed in the state s. Each of these was tried by some seat.
pub record AreFlagsOf (n : NetworkParts) (s : State ℕ Known) (flags : List Bool) : Type 0 where
  pub live : (e : ℕ) → e < length n.edges → (slice_index_or flags e false ≡ true) ↔ (mark_of s.words e ≡ 0)
  pub tried : (e : ℕ) → e < length n.edges → slice_index_or flags e false ≡ false → Any (λ d. Contains d.tried e) s.views

-- s and t are the same seat, maybe at different times
abbrev pub IsSameSeat : SeatView → SeatView → Type 0
IsSameSeat s t = (t.table ≡ s.table) × (t.id ≡ s.id)

-- What a seat keeps beside its place at the table. Between calls it is in no kill.
pub record IsSeated (known : Known) (carried : List (ℕ × ℕ)) (slot : ℕ) (bits : List ℕ) (spare : List (Vec ℕ)) : Type 0 where
  pub idle : known.phase ≡ Idle
  pub keeps : IsKeeping (length known.net.edges) (notes_of known) known.tried carried slot bits spare
