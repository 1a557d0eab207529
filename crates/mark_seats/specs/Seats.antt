-- What holds of all seats at a table of marks, whatever else their views say.
-- Each seat has a note, a slot of its own in which it writes the edge that its next step is for, where a step of a word
-- cannot tell which. Notes stand at each 32nd slot, 128 bytes apart, so that seats write theirs without a cache line in
-- common.
use Rattle.std.specs.Prelude.{◌≡◌, ◌≢◌, ◌⊎◌, ℕ, ◌+◌, ◌*◌, ◌<◌, ◌≤◌, Bool, List, [], ◌∷◌, length}
use mathlib.Core.Option.{Option, some}
use lib.ListN.{get_elem?}
use Rattle.mark_seats.specs.Bits.{one_if}

-- the most seats: one for each of 64 workers, and one more
abbrev pub most_seats : ℕ
most_seats = 65

-- the sum over all views
abbrev pub total : {V : Type 0} → (V → ℕ) → List V → ℕ
total f [] = 0
total f (d ∷ ds) = f d + total f ds

-- What a view says of notes: the number of the seat's own, how many after it are for the seats that it may still split off, and whether the seat has taken its own.
pub record Notes : Type 0 where
  pub slot : ℕ
  pub splits : ℕ
  pub noted : Bool

-- the notes of the seats that a seat may split off are at home, and its own is until it takes it
abbrev pub AreAtHome : ℕ → List (Option ℕ) → Notes → Type 0
AreAtHome seats homes n = (n.slot + n.splits < seats)
    × ((i : ℕ) → n.slot + one_if n.noted ≤ i → i ≤ n.slot + n.splits → (y : ℕ) × (get_elem? homes (i * 32) ≡ some (some y)))

-- the notes of two seats do not meet
abbrev pub AreApart : Notes → Notes → Type 0
AreApart m n = (m.slot + m.splits < n.slot) ⊎ (n.slot + n.splits < m.slot)

-- What the rule of a table that was opened with so many seats says of the notes of its views.
pub record SeatsHold {V : Type 0} (notes : V → Notes) (seats : ℕ) (homes : List (Option ℕ)) (views : List V) : Type 0 where
  pub few : seats ≤ most_seats
  pub deep : length homes ≡ seats * 32
  -- the seats there are, and those that they may still split off, are as many as the table was opened with
  pub seated : length views + total (λ d. (notes d).splits) views ≡ seats
  pub at_home : (j : ℕ) (d : V) → get_elem? views j ≡ some d → AreAtHome seats homes (notes d)
  pub apart : (i j : ℕ) (d e : V) → i ≢ j → get_elem? views i ≡ some d → get_elem? views j ≡ some e → AreApart (notes d) (notes e)
