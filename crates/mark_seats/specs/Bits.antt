-- One bit for each edge, 64 to a word.
use Rattle.std.specs.Prelude.{ℕ, ◌+◌, ◌/◌, ◌%◌, Bool, true, false, eqb, cond, List, [], ◌∷◌, slice_index}
use Rattle.std.specs.Int.{bit_at}

-- the bit of the edge e in the value of its word, which is the word e / 64
abbrev pub bit_in : ℕ → ℕ → ℕ
bit_in x e = bit_at x (e % 64)

-- the bit of the edge e
abbrev pub bit_of : List ℕ → ℕ → ℕ
bit_of bits e = bit_in (slice_index bits (e / 64)) e

-- how many words a bit for each of so many edges takes
abbrev pub bit_words : ℕ → ℕ
bit_words edges = edges / 64 + 1

abbrev pub one_if : Bool → ℕ
one_if false = 0
one_if true = 1

-- whether e is one of the numbers
abbrev pub has_number : ℕ → List ℕ → Bool
has_number e [] = false
has_number e (y ∷ ys) = cond (eqb y e) true (has_number e ys)
