-- What each step makes of the view of the seat that makes it. There are seven kinds:
--   a load of a mark word (`looked`);
--   a fetch-or of one bit of a mark word (`marked`);
--   a fetch-add of `begun` (`started`), and one of `finished` (`ended`);
--   a load of `begun`, which opens a pass (`opened`) or ends it (`settled`), and one of `finished` (`read_finished`);
--   a split, which makes a new seat (`left_view`, `right_view`).
-- Each step is written after the seat's steps, with its word and the value found there. The one load with which a new seat
-- takes its note (`took_note`) is not, and of a split there is no value.
use Rattle.std.specs.Prelude.{◌≡◌, ℕ, zero, suc, ◌+◌, ◌*◌, ◌/◌, ◌-◌, ◌<◌, ◌≤◌, Bool, true, false, eqb, cond, ◌||◌, List, [], ◌∷◌, ◌++◌, Contains}
use Rattle.atomic_table.specs.Table.{Me, Step}
use Rattle.lmt_network.specs.Numbers.{AreLive, IsDead}
use Rattle.edge_marks.specs.declared.view.Made.{Made}
use Rattle.edge_marks.specs.declared.view.Made.TheVariants.{Load, Or, Add, Fork}
use Rattle.edge_marks.specs.declared.view.Phase.TheVariants.{Idle, Begun, Marked}
use Rattle.edge_marks.specs.declared.view.Pass.{Pass}
use Rattle.edge_marks.specs.declared.view.Pass.TheVariants.{NoPass, AtFirst, InPass}
use Rattle.edge_marks.specs.declared.view.Known.{Known}
use Rattle.mark_seats.specs.Bits.{bit_in}
use Rattle.edge_marks.specs.Words.{most_kills}
use Rattle.edge_marks.specs.Rule.{loaded}

-- a seat: what it knows, and its note
abbrev pub Sitting : Type 0
Sitting = Me ℕ Known

-- of the step, the seat before, the value found and the seat after
abbrev pub Telling : Type 1
Telling = Step ℕ → Sitting → ℕ → Sitting → Type 0

-- the view after one more step
abbrev pub after : Known → Made → Known
after d m = record d { steps = d.steps ++ m ∷ [] }

-- the edges seen killed after the bit of e was found: e is one more where the bit is 1
abbrev pub now_seen : ℕ → ℕ → List ℕ → List ℕ
now_seen e zero seen = seen
now_seen e (suc b) seen = e ∷ seen

-- a pass after the word i was found to be x: the load is one more of it
abbrev pub now_loaded : ℕ → ℕ → Pass → Pass
now_loaded i x NoPass = NoPass
now_loaded i x (AtFirst b) = AtFirst b
now_loaded i x (InPass b loads) = InPass b (loads ++ loaded i x ∷ [])

-- A load of the word of the edge e gave x.
abbrev pub looked_view : ℕ → ℕ → Known → Known
looked_view e x d = record (after d (Load (e / 64) x)) { seen = now_seen e (bit_in x e) d.seen; pass = now_loaded (e / 64) x d.pass }

-- what a load of the word of the edge e that gave x tells of e
pub record LookTells (d : Known) (e x : ℕ) : Type 0 where
  pub dead : 0 < bit_in x e → IsDead d.net e
  pub seen : Contains d.seen e → 0 < bit_in x e
  pub tried : d.phase ≡ Idle → Contains d.tried e → 0 < bit_in x e
  pub settled : d.settled ≡ true → (es : List ℕ) → AreLive d.net es → (bit_in x e ≡ 0 → Contains es e) × (0 < bit_in x e → ¬ Contains es e)

-- The note says for which edge the word is loaded.
abbrev pub looked : Telling
looked st m x m' = (k e : ℕ) → m.1 ≡ (k, e) ∷ [] → (m' ≡ (looked_view e x m.0, m.1)) × LookTells m.0 e x

-- The word i, which is `begun`, rose from x, for the edge e.
abbrev pub begun_view : ℕ → ℕ → ℕ → Known → Known
begun_view i e x d = record (after d (Add i x)) { phase = Begun e; tried = e ∷ d.tried; pass = NoPass; low = x + 1 }

-- The note says for which edge the kill begins.
abbrev pub started : Telling
started st m x m' = (k e : ℕ) → m.1 ≡ (k, e) ∷ [] → (m' ≡ (begun_view st.word e x m.0, m.1)) × (m.0.low ≤ x) × (x + 1 ≤ most_kills m.0.net)

-- The bit of the edge e was set in its word, which was x.
abbrev pub marked_view : ℕ → ℕ → Known → Known
marked_view e x d = record (after d (Or (e / 64) x)) { phase = Marked e }

abbrev pub marked : Telling
marked st m x m' = (e : ℕ) → m.0.phase ≡ Begun e → m' ≡ (marked_view e x m.0, m.1)

-- The word i, which is `finished`, rose from x, for the edge e.
abbrev pub ended_view : ℕ → ℕ → ℕ → Known → Known
ended_view i e x d = record (after d (Add i x)) { phase = Idle; seen = e ∷ d.seen }

abbrev pub ended : Telling
ended st m x m' = (e : ℕ) → m.0.phase ≡ Marked e → m' ≡ (ended_view st.word e x m.0, m.1)

-- A load of the word i, which is `begun`, gave x, and opens a pass, whatever pass there was.
abbrev pub opened_view : ℕ → ℕ → Known → Known
opened_view i x d = record (after d (Load i x)) { pass = AtFirst x; low = x }

abbrev pub opened : Telling
opened st m x m' = (m' ≡ (opened_view st.word x m.0, m.1)) × (m.0.low ≤ x) × (x ≤ most_kills m.0.net)

-- a pass after `finished` was found to be x: it goes on where that is the value of `begun`
abbrev pub compared : ℕ → Pass → Pass
compared x (AtFirst b) = cond (eqb x b) (InPass b []) NoPass
compared x NoPass = NoPass
compared x (InPass b loads) = NoPass

-- A load of the word i, which is `finished`, gave x.
abbrev pub compared_view : ℕ → ℕ → Known → Known
compared_view i x d = record (after d (Load i x)) { pass = compared x d.pass }

abbrev pub read_finished : Telling
read_finished st m x m' = m' ≡ (compared_view st.word x m.0, m.1)

-- whether the pass began when x kills had begun
abbrev pub has_begun_with : ℕ → Pass → Bool
has_begun_with x NoPass = false
has_begun_with x (AtFirst b) = false
has_begun_with x (InPass b loads) = eqb x b

-- A load of the word i, which is `begun`, gave x, and ends a pass in which each edge was judged (`AreJudged`), a condition
-- of the step. The seat is settled where the pass began with x too.
abbrev pub settled_view : ℕ → ℕ → Known → Known
settled_view i x d = record (after d (Load i x)) { pass = NoPass; low = x; settled = d.settled || has_begun_with x d.pass }

abbrev pub settled : Telling
settled st m x m' = (m' ≡ (settled_view st.word x m.0, m.1)) × (m.0.low ≤ x) × (x ≤ most_kills m.0.net)

-- The seat takes its note.
abbrev pub noted_view : Known → Known
noted_view d = record d { noted = true }

abbrev pub took_note : Telling
took_note st m x m' = (y : ℕ) × (m' ≡ (noted_view m.0, (m.0.slot * 32, y) ∷ []))

-- What the old seat knows after a split: all that it knew, and it has a split less.
abbrev pub left_view : Known → Known
left_view d = record (after d Fork) { splits = d.splits - 1 }

-- What the new one knows: the edges that the old one has seen killed.
abbrev pub right_view : Known → Known
right_view d = record { net = d.net; seen = d.seen; tried = []; phase = Idle; pass = NoPass; settled = false; splits = 0; low = 0; steps = []; slot = d.slot + d.splits; noted = false }
