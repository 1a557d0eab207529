-- The lines of a file, and the words of a line.
use Rattle.std.specs.Prelude.{ℕ, ◌-◌, ◌+◌, Bool, true, false, not, ◌||◌, List, [], ◌∷◌, length, take, drop, map, filter, slice_index, ◌==◌, if◌then◌else◌}
use Rattle.std.specs.List.{slice_split, list_all, prefix_len, suffix_len}

-- a line, with its number in the file
pub record Line : Type 0 where
  pub number : ℕ
  pub text : List ℕ

abbrev pub is_line_feed : ℕ → Bool
is_line_feed b = b == 10

-- a space or a tab
abbrev pub is_blank : ℕ → Bool
is_blank b = b == 32 || b == 9

abbrev pub is_empty : List ℕ → Bool
is_empty [] = true
is_empty (b ∷ bs) = false

-- the pieces, without the last one where that is empty
abbrev pub without_empty_last : List (List ℕ) → List (List ℕ)
without_empty_last [] = []
without_empty_last (piece ∷ []) = if is_empty piece then [] else piece ∷ []
without_empty_last (piece ∷ next ∷ pieces) = piece ∷ without_empty_last (next ∷ pieces)

-- a piece, without one CR at its end
unfoldable pub without_return : List ℕ → List ℕ
without_return piece =
    if slice_index piece (length piece - 1) == 13 then take (length piece - 1) piece else piece

-- The texts of the lines: the bytes are cut at each LF, and one CR at the end of a line is taken off. A last piece without
-- LF is a line if it is not empty.
unfoldable pub texts : List ℕ → List (List ℕ)
texts bytes = map without_return (without_empty_last (slice_split is_line_feed bytes))

-- lines with these texts, numbered from n
abbrev pub numbered : ℕ → List (List ℕ) → List Line
numbered n [] = []
numbered n (text ∷ rest) = record { number = n; text = text } ∷ numbered (n + 1) rest

-- the lines of a file, numbered from 1
abbrev pub lines : List ℕ → List Line
lines bytes = numbered 1 (texts bytes)

-- a line with nothing but blanks
abbrev pub is_blank_line : Line → Bool
is_blank_line l = list_all is_blank l.text

-- a text without the blanks at its two ends
unfoldable pub trim_front : List ℕ → List ℕ
trim_front text = drop (prefix_len is_blank text) text

unfoldable pub trim_back : List ℕ → List ℕ
trim_back text = take (length text - suffix_len is_blank text) text

unfoldable pub trim : List ℕ → List ℕ
trim text = trim_back (trim_front text)

-- what stands between blanks
unfoldable pub words : List ℕ → List (List ℕ)
words text = filter (λ word. not (is_empty word)) (slice_split is_blank text)
