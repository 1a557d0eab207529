-- What a seat keeps beside its place at the table.
use Rattle.std.specs.Prelude.{◌≡◌, ℕ, ◌+◌, ◌*◌, ◌<◌, ◌≤◌, true, List, [], ◌∷◌, length, replicate, All}
use Rattle.std.specs.Global.{Vec}
use Rattle.mark_seats.specs.Bits.{bit_of, bit_words, one_if, has_number}
use Rattle.mark_seats.specs.Seats.{Notes}

-- the note that a seat carries
abbrev pub note_of : List (ℕ × ℕ) → ℕ
note_of [] = 0
note_of (x ∷ xs) = x.1

-- Of so many edges, a seat keeps its note alone; the bits of the edges that it has tried; and blank rows of bits for the seats that it may split off.
pub record IsKeeping (edges : ℕ) (notes : Notes) (tried : List ℕ) (carried : List (ℕ × ℕ)) (slot : ℕ) (bits : List ℕ) (spare : List (Vec ℕ)) : Type 0 where
  pub note : carried ≡ (slot * 32, note_of carried) ∷ []
  pub slot_is : notes.slot ≡ slot
  pub noted : notes.noted ≡ true
  pub splits : notes.splits ≡ length spare
  pub wide : length bits ≡ bit_words edges
  pub bits_are : (e : ℕ) → e < edges → bit_of bits e ≡ one_if (has_number e tried)
  pub blank : All (λ row. row.items ≡ replicate (bit_words edges) 0) spare
  pub few : slot + notes.splits ≤ 64
