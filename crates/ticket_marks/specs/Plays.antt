-- What each step makes of the view of the seat that makes it. There are four kinds:
--   a load of a mark (`looked`);
--   a fetch-add of `issued` (`drew`), which draws a ticket;
--   a compare-exchange of a mark (`killed`), which stores the rank one above the ticket where the mark is 0;
--   a split, which makes a new seat (`left_view`, `right_view`).
-- Each step is written after the seat's steps, with its word and the value found there. The one load with which a new seat
-- takes its note (`took_note`) is not, and of a split there is no value.
use Rattle.std.specs.Prelude.{◌≡◌, ℕ, zero, suc, ◌+◌, ◌*◌, ◌-◌, ◌<◌, ◌≤◌, true, false, List, [], ◌∷◌, ◌++◌, Contains}
use Rattle.atomic_table.specs.Table.{Me, Step}
use Rattle.lmt_network.specs.Numbers.{IsDead}
use Rattle.ticket_marks.specs.declared.view.Made.{Made}
use Rattle.ticket_marks.specs.declared.view.Made.TheVariants.{Load, Add, Exchange, Fork}
use Rattle.ticket_marks.specs.declared.view.Ranked.{Ranked}
use Rattle.ticket_marks.specs.declared.view.Drawn.TheVariants.{NoTicket, Ticket}
use Rattle.ticket_marks.specs.declared.view.Known.{Known}
use Rattle.ticket_marks.specs.Words.{most_tickets}
use Rattle.ticket_marks.specs.Rule.{ranked}

-- a seat: what it knows, and its note
abbrev pub Sitting : Type 0
Sitting = Me ℕ Known

-- of the step, the seat before, the value found and the seat after
abbrev pub Telling : Type 1
Telling = Step ℕ → Sitting → ℕ → Sitting → Type 0

-- the view after one more step
abbrev pub after : Known → Made → Known
after d m = record d { steps = d.steps ++ m ∷ [] }

-- the edges seen after the mark of e was found: e is one more where the mark is above 0
abbrev pub now_seen : ℕ → ℕ → List Ranked → List Ranked
now_seen e zero seen = seen
now_seen e (suc m) seen = ranked e (suc m) ∷ seen

-- A load of the mark of the edge e gave x.
abbrev pub looked_view : ℕ → ℕ → Known → Known
looked_view e x d = record (after d (Load e x)) { seen = now_seen e x d.seen }

-- what a load of the mark of the edge e that gave x tells of e
pub record LookTells (d : Known) (e x : ℕ) : Type 0 where
  pub dead : 0 < x → IsDead d.net e
  pub seen : (m : ℕ) → Contains d.seen (ranked e m) → x ≡ m

abbrev pub looked : Telling
looked st m x m' = (m' ≡ (looked_view st.word x m.0, m.1)) × LookTells m.0 st.word x

-- The word i, which is `issued`, gave the ticket t for the edge e.
abbrev pub drawn_view : ℕ → ℕ → ℕ → Known → Known
drawn_view i e t d = record (after d (Add i t)) { drawn = Ticket e t; tried = e ∷ d.tried }

-- The note says for which edge the ticket is drawn.
abbrev pub drew : Telling
drew st m t m' = (k e : ℕ) → m.1 ≡ (k, e) ∷ [] → (m' ≡ (drawn_view st.word e t m.0, m.1)) × (t + 1 ≤ most_tickets m.0.net)

-- the mark of an edge after a kill with the ticket t that found x
abbrev pub now_mark : ℕ → ℕ → ℕ
now_mark t zero = t + 1
now_mark t (suc m) = suc m

-- The mark of the edge e was x, in a kill with the ticket t.
abbrev pub killed_view : ℕ → ℕ → ℕ → Known → Known
killed_view e t x d = record (after d (Exchange e x)) { drawn = NoTicket; seen = ranked e (now_mark t x) ∷ d.seen }

abbrev pub killed : Telling
killed st m x m' = (e t : ℕ) → m.0.drawn ≡ Ticket e t → m' ≡ (killed_view e t x m.0, m.1)

-- The seat takes its note.
abbrev pub noted_view : Known → Known
noted_view d = record d { noted = true }

abbrev pub took_note : Telling
took_note st m x m' = (y : ℕ) × (m' ≡ (noted_view m.0, (m.0.slot * 32, y) ∷ []))

-- What the old seat knows after a split: all that it knew, and it has a split less.
abbrev pub left_view : Known → Known
left_view d = record (after d Fork) { splits = d.splits - 1 }

-- What the new one knows: the edges that the old one has seen killed.
abbrev pub right_view : Known → Known
right_view d = record { net = d.net; seen = d.seen; tried = []; drawn = NoTicket; splits = 0; steps = []; slot = d.slot + d.splits; noted = false }
