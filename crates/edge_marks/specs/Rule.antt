-- The rule of the marks: what holds between any two steps of any seats.
-- It speaks of the words (`Words`) and of the views of all seats. A view is what is known of a seat in proofs; only the
-- seat's own steps change it, as `Plays` says. Beside its view each seat has a note (`mark_seats`), in which it writes the
-- edge that its next step is for, where a step of a word cannot tell which.
use Rattle.std.specs.Prelude.{◌≡◌, ◌≢◌, ◌⊎◌, ℕ, zero, suc, ◌+◌, ◌/◌, ◌-◌, ◌^◌, ◌<◌, ◌≤◌, true, false, eqb, cond, List, [], ◌∷◌, ◌++◌, length, slice_index, AllPairs, Any, Contains}
use mathlib.Core.Option.{some}
use lib.ListN.{get_elem?}
use Rattle.atomic_table.specs.Table.{State}
use Rattle.lmt_network.specs.Network.{NetworkParts}
use Rattle.lmt_network.specs.Numbers.{IsHullNumber, IsMinimalPair, IsOtherSide, AreLive, IsDead, IsBroken}
use Rattle.mark_seats.specs.Bits.{bit_in}
use Rattle.mark_seats.specs.Seats.{Notes, SeatsHold, total}
use Rattle.edge_marks.specs.declared.view.Loaded.{Loaded}
use Rattle.edge_marks.specs.declared.view.Phase.{Phase}
use Rattle.edge_marks.specs.declared.view.Phase.TheVariants.{Idle, Begun, Marked}
use Rattle.edge_marks.specs.declared.view.Pass.{Pass}
use Rattle.edge_marks.specs.declared.view.Pass.TheVariants.{NoPass, AtFirst, InPass}
use Rattle.edge_marks.specs.declared.view.Known.{Known}
use Rattle.edge_marks.specs.declared.view.About.{About}
use Rattle.edge_marks.specs.Words.{mark_of, mark_words, begun_word, finished_word, word_count}

-- how many kills have begun
abbrev pub begun : NetworkParts → List ℕ → ℕ
begun n ws = slice_index ws (begun_word n)

-- how many kills have finished
abbrev pub finished : NetworkParts → List ℕ → ℕ
finished n ws = slice_index ws (finished_word n)

-- No edge is killed, no kill has begun, and none has finished.
pub record AreBlank (n : NetworkParts) (ws : List ℕ) : Type 0 where
  pub live : (e : ℕ) → e < length n.edges → mark_of ws e ≡ 0
  pub none_begun : begun n ws ≡ 0
  pub none_finished : finished n ws ≡ 0

-- the edges below k that are not killed, in their order
abbrev pub unkilled : ℕ → List ℕ → List ℕ
unkilled zero ws = []
unkilled (suc k) ws = cond (eqb (mark_of ws k) 0) (unkilled k ws ++ k ∷ []) (unkilled k ws)

-- the view of the first seat of so many
abbrev pub first_known : NetworkParts → ℕ → Known
first_known n seats = record { net = n; seen = []; tried = []; phase = Idle; pass = NoPass; settled = false; splits = seats - 1; low = 0; steps = []; slot = 0; noted = false }

abbrev pub first_view : About → Known
first_view k = first_known k.net.value k.seats

-- the edge e is no hull edge, each locally minimal pair of it has another side that was seen killed, and it is among the edges tried
abbrev pub IsAim : NetworkParts → List ℕ → List ℕ → ℕ → Type 0
IsAim n seen tried e = (e < length n.edges) × (¬ IsHullNumber n e) × IsBroken n seen e × Contains tried e

-- a seat may begin to kill such an edge alone; where it has set the bit, the edge is killed
abbrev pub PhaseHolds : NetworkParts → List ℕ → List ℕ → List ℕ → Phase → Type 0
PhaseHolds n ws seen tried Idle = Unit {0}
PhaseHolds n ws seen tried (Begun e) = IsAim n seen tried e
PhaseHolds n ws seen tried (Marked e) = IsAim n seen tried e × (0 < mark_of ws e)

-- each load gave the value that its mark word has now
abbrev pub ArePresent : NetworkParts → List ℕ → List Loaded → Type 0
ArePresent n ws loads = (l : Loaded) → Contains loads l → (l.word < mark_words n) × (slice_index ws l.word ≡ l.value)

-- where a pass began when b kills had begun, and none has begun since, all of them have finished, and its loads are present
abbrev pub PassHolds : NetworkParts → List ℕ → Pass → Type 0
PassHolds n ws NoPass = Unit {0}
PassHolds n ws (AtFirst b) = b ≤ begun n ws
PassHolds n ws (InPass b loads) = (b ≤ begun n ws) × (begun n ws ≡ b → (finished n ws ≡ b) × ArePresent n ws loads)

abbrev pub loaded : ℕ → ℕ → Loaded
loaded i x = record { word = i; value = x }

-- one of the loads gave the edge's word with the edge's bit 0
abbrev pub WasLive : List Loaded → ℕ → Type 0
WasLive loads e = (x : ℕ) × Contains loads (loaded (e / 64) x) × (bit_in x e ≡ 0)

-- one of the loads gave the edge's word with the edge's bit 1
abbrev pub WasKilled : List Loaded → ℕ → Type 0
WasKilled loads e = (x : ℕ) × Contains loads (loaded (e / 64) x) × (0 < bit_in x e)

-- the edge e has a locally minimal pair whose other sides were all loaded live
abbrev pub HadSupport : NetworkParts → List Loaded → ℕ → Type 0
HadSupport n loads e = (l : ℕ) × (r : ℕ) × IsMinimalPair n e l r × ((f : ℕ) → IsOtherSide n e l r f → WasLive loads f)

-- the edge e is a hull edge, or was loaded killed, or has a support that was loaded live
abbrev pub IsJudged : NetworkParts → List Loaded → ℕ → Type 0
IsJudged n loads e = IsHullNumber n e ⊎ (WasKilled loads e ⊎ HadSupport n loads e)

-- A load of `begun` settles its seat where it ends a pass in which each edge was judged.
abbrev pub AreJudged : NetworkParts → List Loaded → Type 0
AreJudged n loads = (e : ℕ) → e < length n.edges → IsJudged n loads e

-- 1 in the midst of a kill
abbrev pub busy : Phase → ℕ
busy Idle = 0
busy (Begun e) = 1
busy (Marked e) = 1

-- What the rule says of one view.
pub record ViewHolds (n : NetworkParts) (ws : List ℕ) (d : Known) : Type 0 where
  pub net_is : d.net ≡ n
  -- each edge seen is killed
  pub seen_killed : (e : ℕ) → Contains d.seen e → (e < length n.edges) × (0 < mark_of ws e)
  -- the edges tried are distinct edges, each killed but the one that the seat has only begun to kill
  pub tried_below : (e : ℕ) → Contains d.tried e → e < length n.edges
  pub tried_killed : (e : ℕ) → Contains d.tried e → ¬ (d.phase ≡ Begun e) → 0 < mark_of ws e
  pub tried_once : AllPairs (λ e f. e ≢ f) d.tried
  pub aim : PhaseHolds n ws d.seen d.tried d.phase
  pub in_pass : PassHolds n ws d.pass
  -- where the seat is settled, the edges that are not killed are the live ones
  pub quiet : d.settled ≡ true → AreLive n (unkilled (length n.edges) ws)
  -- no fewer kills have begun than the seat knows of
  pub low_is : d.low ≤ begun n ws

abbrev pub is_busy : Known → ℕ
is_busy d = busy d.phase

abbrev pub tries : Known → ℕ
tries d = length d.tried

abbrev pub notes_of : Known → Notes
notes_of d = record { slot = d.slot; splits = d.splits; noted = d.noted }

-- The rule, for the network and the number of seats that the marks were opened with.
pub record MarksHold (k : About) (s : State ℕ Known) : Type 0 where
  pub wide : length s.words ≡ word_count k.net.value
  pub few : length k.net.value.edges < 2 ^ 32
  -- no closed edges have a killed one
  pub safe : (e : ℕ) → e < length k.net.value.edges → 0 < mark_of s.words e → IsDead k.net.value e
  -- each killed edge was tried by some seat
  pub killed_tried : (e : ℕ) → e < length k.net.value.edges → 0 < mark_of s.words e → Any (λ d. Contains d.tried e) s.views
  -- the bits of no edge are 0
  pub spare : (e : ℕ) → length k.net.value.edges ≤ e → e / 64 < mark_words k.net.value → mark_of s.words e ≡ 0
  pub each : (j : ℕ) (d : Known) → get_elem? s.views j ≡ some d → ViewHolds k.net.value s.words d
  -- the kills that have begun and not finished are those that seats are in the midst of
  pub open_kills : finished k.net.value s.words + total is_busy s.views ≡ begun k.net.value s.words
  -- the kills that have begun are the tries of all seats
  pub kills : begun k.net.value s.words ≡ total tries s.views
  pub seating : SeatsHold notes_of k.seats s.homes s.views
