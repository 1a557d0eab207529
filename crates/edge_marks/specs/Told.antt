-- What a call tells of its seat: what the seat still knows, and what `examine` and `settle` have found, by the loads of the call.
use Rattle.std.specs.Prelude.{◌≡◌, ◌≢◌, ◌⊎◌, ℕ, ◌/◌, ◌<◌, ◌≤◌, true, List, [], ◌∷◌, ◌++◌, length, map, Contains}
use Rattle.lmt_network.specs.Network.{NetworkParts}
use Rattle.lmt_network.specs.Numbers.{IsHullNumber, IsBroken}
use Rattle.mark_seats.specs.Supports.{Asked, asked, IsLivePair}
use Rattle.edge_marks.specs.declared.answer.Found.{Found}
use Rattle.edge_marks.specs.declared.answer.Found.TheVariants.{Supported, Unsupported}
use Rattle.edge_marks.specs.declared.answer.Settle.{Settle}
use Rattle.edge_marks.specs.declared.answer.Settle.TheVariants.{Quiet, Lone, Moved, InFlight}
use Rattle.edge_marks.specs.declared.view.Made.{Made}
use Rattle.edge_marks.specs.declared.view.Made.TheVariants.{Load}
use Rattle.edge_marks.specs.declared.view.Known.{Known}
use Rattle.mark_seats.specs.Bits.{bit_in}
use Rattle.edge_marks.specs.Words.{begun_word, finished_word}
use Rattle.edge_marks.specs.Plays.{looked_view, opened_view, compared_view, settled_view}

-- What a seat knew it still knows, and the steps of the calls in between come after its steps.
pub record Remembers (d d' : Known) : Type 0 where
  pub seen : (e : ℕ) → Contains d.seen e → Contains d'.seen e
  pub tried : (e : ℕ) → Contains d.tried e → Contains d'.tried e
  pub settled : d.settled ≡ true → d'.settled ≡ true
  pub low : d.low ≤ d'.low
  pub steps : (made : List Made) × (d'.steps ≡ d.steps ++ made)

-- the view after loads that ask for edges, in their order
abbrev pub looked_all : List Asked → Known → Known
looked_all [] d = d
looked_all (l ∷ ls) d = looked_all ls (looked_view l.edge l.value d)

-- the step of such a load
abbrev pub ask_made : Asked → Made
ask_made l = Load (l.edge / 64) l.value

-- the steps of the new view are those of the old and those of these loads
abbrev pub MakesLoads : List Asked → Known → Known → Type 0
MakesLoads ls d d' = d'.steps ≡ d.steps ++ map ask_made ls

-- a load for the edge f found it live
abbrev pub FoundLive : List Asked → ℕ → Type 0
FoundLive ls f = (x : ℕ) × Contains ls (asked f x) × (bit_in x f ≡ 0)

-- a load for the edge f found it killed
abbrev pub FoundKilled : List Asked → ℕ → Type 0
FoundKilled ls f = (x : ℕ) × Contains ls (asked f x) × (0 < bit_in x f)

-- the edge e is a hull edge, or was found killed, or has a support that was found live
abbrev pub WasJudged : NetworkParts → List Asked → ℕ → Type 0
WasJudged n ls e = IsHullNumber n e ⊎ (FoundKilled ls e ⊎ ((l : ℕ) × (r : ℕ) × IsLivePair n e l r (FoundLive ls)))

-- each edge below k was judged by the loads
abbrev pub WereJudged : NetworkParts → List Asked → ℕ → Type 0
WereJudged n ls k = (e : ℕ) → e < k → WasJudged n ls e

-- what `examine` has found of the edge e, where the seat has then seen these edges killed
abbrev pub FoundBy : NetworkParts → ℕ → List Asked → List ℕ → Found → Type 0
FoundBy n e ls seen (Supported l r) = IsLivePair n e l r (FoundLive ls)
FoundBy n e ls seen Unsupported = IsBroken n seen e

-- the view after the two loads that begin a pass
abbrev pub entered : NetworkParts → ℕ → ℕ → Known → Known
entered n b f d = compared_view (finished_word n) f (opened_view (begun_word n) b d)

-- what `settle` has found, between the views d and d'
abbrev pub SettledBy : NetworkParts → Known → Known → Settle → Type 0
SettledBy n d d' Quiet = (b : ℕ) × (ls : List Asked) × (d' ≡ settled_view (begun_word n) b (looked_all ls (entered n b b d))) × (d'.settled ≡ true) × WereJudged n ls (length n.edges)
SettledBy n d d' (Lone e) = (b : ℕ) × (ls : List Asked) × (d' ≡ looked_all ls (entered n b b d)) × (e < length n.edges) × (¬ IsHullNumber n e) × FoundLive ls e × IsBroken n d'.seen e × (¬ Contains d'.tried e) × WereJudged n ls e
SettledBy n d d' (Moved before after) = (ls : List Asked) × (d' ≡ settled_view (begun_word n) after (looked_all ls (entered n before before d))) × (before < after) × WereJudged n ls (length n.edges)
SettledBy n d d' (InFlight begun finished) = (d' ≡ entered n begun finished d) × (begun ≢ finished)
