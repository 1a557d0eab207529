-- The rule of the tickets: what holds between any two steps of any seats.
-- It speaks of the words (`Words`) and of the views of all seats. A view is what is known of a seat in proofs; only the
-- seat's own steps change it, as `Plays` says. Beside its view each seat has a note (`mark_seats`), in which it writes the
-- edge for which it draws a ticket, since a step of `issued` cannot tell.
use Rattle.std.specs.Prelude.{◌≡◌, ◌≢◌, ℕ, ◌-◌, ◌^◌, ◌<◌, ◌≤◌, false, List, [], length, map, slice_index, AllPairs, Contains}
use mathlib.Core.Option.{some}
use lib.ListN.{get_elem?}
use Rattle.atomic_table.specs.Table.{State}
use Rattle.lmt_network.specs.Derivation.{IsDerivation}
use Rattle.lmt_network.specs.Network.{NetworkParts}
use Rattle.lmt_network.specs.Numbers.{IsHullNumber, IsMinimalPair, IsOtherSide}
use Rattle.mark_seats.specs.Seats.{Notes, SeatsHold, total}
use Rattle.ticket_marks.specs.declared.view.Ranked.{Ranked}
use Rattle.ticket_marks.specs.declared.view.Drawn.{Drawn}
use Rattle.ticket_marks.specs.declared.view.Drawn.TheVariants.{NoTicket, Ticket}
use Rattle.ticket_marks.specs.declared.view.Known.{Known}
use Rattle.ticket_marks.specs.declared.view.About.{About}
use Rattle.ticket_marks.specs.Words.{issued, word_count}

-- the view of the first seat of so many
abbrev pub first_known : NetworkParts → ℕ → Known
first_known n seats = record { net = n; seen = []; tried = []; drawn = NoTicket; splits = seats - 1; steps = []; slot = 0; noted = false }

abbrev pub first_view : About → Known
first_view k = first_known k.net.value k.seats

abbrev pub ranked : ℕ → ℕ → Ranked
ranked e m = record { edge = e; rank = m }

-- the edges seen, without their ranks
abbrev pub edges_seen : List Ranked → List ℕ
edges_seen seen = map (λ s. s.edge) seen

-- each locally minimal pair of the edge e has another side that was seen with a rank of at most t
abbrev pub IsBrokenUpTo : NetworkParts → List Ranked → ℕ → ℕ → Type 0
IsBrokenUpTo n seen e t =
    (l r : ℕ) → IsMinimalPair n e l r → (f : ℕ) × (m : ℕ) × IsOtherSide n e l r f × Contains seen (ranked f m) × (m ≤ t)

-- a ticket that was drawn is below the count of tickets, and its edge may be killed with a rank one above it
abbrev pub DrawnHolds : NetworkParts → ℕ → List Ranked → List ℕ → Drawn → Type 0
DrawnHolds n count seen tried NoTicket = Unit {0}
DrawnHolds n count seen tried (Ticket e t) =
    (t < count) × (e < length n.edges) × (¬ IsHullNumber n e) × Contains tried e × IsBrokenUpTo n seen e t

-- What the rule says of one view.
pub record ViewHolds (n : NetworkParts) (ws : List ℕ) (d : Known) : Type 0 where
  pub net_is : d.net ≡ n
  -- each edge seen has its mark still
  pub seen_marked : (s : Ranked) → Contains d.seen s → (s.edge < length n.edges) × (0 < s.rank) × (slice_index ws s.edge ≡ s.rank)
  -- the edges tried are distinct edges
  pub tried_below : (e : ℕ) → Contains d.tried e → e < length n.edges
  pub tried_once : AllPairs (λ e f. e ≢ f) d.tried
  pub ticket : DrawnHolds n (issued n ws) d.seen d.tried d.drawn

abbrev pub tries : Known → ℕ
tries d = length d.tried

abbrev pub notes_of : Known → Notes
notes_of d = record { slot = d.slot; splits = d.splits; noted = d.noted }

-- The rule, for the network and the number of seats that the tickets were opened with.
pub record TicketsHold (k : About) (s : State ℕ Known) : Type 0 where
  pub wide : length s.words ≡ word_count k.net.value
  pub few : length k.net.value.edges < 2 ^ 32
  -- the marks are a derivation, and none is above the count of tickets
  pub derivation : IsDerivation k.net.value s.words
  pub low : (e : ℕ) → e < length k.net.value.edges → slice_index s.words e ≤ issued k.net.value s.words
  pub each : (j : ℕ) (d : Known) → get_elem? s.views j ≡ some d → ViewHolds k.net.value s.words d
  -- the tickets drawn are the tries of all seats
  pub tickets : issued k.net.value s.words ≡ total tries s.views
  pub seating : SeatsHold notes_of k.seats s.homes s.views
