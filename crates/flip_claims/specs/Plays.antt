-- What each step makes of the view of the seat that makes it. There are three kinds:
--   a fetch-min with a slot on the word of a triangle (`lowered`);
--   a split, which makes a new seat (`left_view`, `right_view`), with a load of the first word;
--   a join, which leaves another seat empty (`joined_view`, `spent_view`), with a load of the first word.
-- Each step is written after the seat's steps: a fetch-min with its word, its slot and the value found there. Of the loads of
-- splits and joins there is no value.
use Rattle.std.specs.Prelude.{◌≡◌, ℕ, ◌+◌, ◌-◌, [], ◌∷◌, ◌++◌}
use Rattle.atomic_table.specs.Table.{Me, Step}
use Rattle.flip_claims.specs.declared.view.Made.{Made}
use Rattle.flip_claims.specs.declared.view.Made.TheVariants.{Min, Fork, Join}
use Rattle.flip_claims.specs.declared.view.Known.{Known}
use Rattle.flip_claims.specs.Rule.{claim_on}

-- a seat: what it knows, and no slot of the table
abbrev pub Sitting : Type 0
Sitting = Me ℕ Known

-- of the step, the seat before, the value found and the seat after
abbrev pub Telling : Type 1
Telling = Step ℕ → Sitting → ℕ → Sitting → Type 0

-- the view after one more step
abbrev pub after : Known → Made → Known
after d m = record d { steps = d.steps ++ m ∷ [] }

-- The triangle t was claimed for the slot s, and its word was x.
abbrev pub claimed_view : ℕ → ℕ → ℕ → Known → Known
claimed_view t s x d = record (after d (Min t s x)) { claimed = claim_on t s ∷ d.claimed }

abbrev pub lowered : Telling
lowered st m x m' = m' ≡ (claimed_view st.word st.first x m.0, m.1)

-- What the old seat knows after a split: all that it knew. It has a split less, and a share less.
abbrev pub left_view : Known → Known
left_view d = record (after d Fork) { splits = d.splits - 1; shares = d.shares - 1 }

-- What the new one knows: nothing. It has a share.
abbrev pub right_view : Known → Known
right_view d = record { claimed = []; splits = 0; shares = 1; steps = [] }

-- What a seat knows after a join: it has claimed what both have, and has the shares of both.
abbrev pub joined_view : Known → Known → Known
joined_view d e = record (after d Join) { claimed = d.claimed ++ e.claimed; shares = d.shares + e.shares }

-- What is left of the other one.
abbrev pub spent_view : Known
spent_view = record { claimed = []; splits = 0; shares = 0; steps = [] }
