-- What a call tells of its seat: what the seat still knows, and what `examine` has found, by the loads of the call.
use Rattle.std.specs.Prelude.{◌≡◌, ℕ, List, [], ◌∷◌, ◌++◌, map, Contains}
use Rattle.lmt_network.specs.Network.{NetworkParts}
use Rattle.lmt_network.specs.Numbers.{IsBroken}
use Rattle.mark_seats.specs.Supports.{Asked, asked, IsLivePair}
use Rattle.ticket_marks.specs.declared.answer.TicketFound.{TicketFound}
use Rattle.ticket_marks.specs.declared.answer.TicketFound.TheVariants.{Supported, Unsupported}
use Rattle.ticket_marks.specs.declared.view.Made.{Made}
use Rattle.ticket_marks.specs.declared.view.Made.TheVariants.{Load}
use Rattle.ticket_marks.specs.declared.view.Ranked.{Ranked}
use Rattle.ticket_marks.specs.declared.view.Known.{Known}
use Rattle.ticket_marks.specs.Plays.{looked_view}
use Rattle.ticket_marks.specs.Rule.{edges_seen}

-- What a seat knew it still knows, and the steps of the calls in between come after its steps.
pub record Remembers (d d' : Known) : Type 0 where
  pub seen : (s : Ranked) → Contains d.seen s → Contains d'.seen s
  pub tried : (e : ℕ) → Contains d.tried e → Contains d'.tried e
  pub steps : (made : List Made) × (d'.steps ≡ d.steps ++ made)

-- the view after loads of the marks of edges, in their order
abbrev pub looked_all : List Asked → Known → Known
looked_all [] d = d
looked_all (l ∷ ls) d = looked_all ls (looked_view l.edge l.value d)

-- the step of such a load
abbrev pub ask_made : Asked → Made
ask_made l = Load l.edge l.value

-- the steps of the new view are those of the old and those of these loads
abbrev pub MakesLoads : List Asked → Known → Known → Type 0
MakesLoads ls d d' = d'.steps ≡ d.steps ++ map ask_made ls

-- the edge f was found live
abbrev pub FoundLive : List Asked → ℕ → Type 0
FoundLive ls f = Contains ls (asked f 0)

-- what `examine` has found of the edge e, where the seat has then seen these edges killed
abbrev pub FoundBy : NetworkParts → ℕ → List Asked → List Ranked → TicketFound → Type 0
FoundBy n e ls seen (Supported l r) = IsLivePair n e l r (FoundLive ls)
FoundBy n e ls seen Unsupported = IsBroken n (edges_seen seen) e
