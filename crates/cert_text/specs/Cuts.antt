-- Lines and the fields of a line.
use Rattle.std.specs.Prelude.{ℕ, ◌+◌, Bool, List, [], ◌∷◌, take, drop, position, bytes_eq, Option, Ok, Err, ◌==◌, if◌then◌else◌}
use Rattle.std.specs.Option.{option_map}
use Rattle.std.specs.List.{slice_split}
use Rattle.cert_text.specs.declared.found.Flaw.TheVariants.{NotSpelled}
use Rattle.cert_text.specs.Found.{◌>>=◌, Found}

abbrev pub is_byte : ℕ → ℕ → Bool
is_byte byte b = b == byte

-- what stands before the first of these bytes and after it, if there is one
unfoldable pub cut : ℕ → List ℕ → Option (List ℕ × List ℕ)
cut byte text = option_map (λ n. (take n text, drop (n + 1) text)) (position (is_byte byte) text)

-- the fields of a line: what stands between its spaces
unfoldable pub fields : List ℕ → List (List ℕ)
fields text = slice_split (is_byte 32) text

-- exactly one field; exactly two; exactly three
abbrev pub one : List (List ℕ) → Found (List ℕ)
one (a ∷ []) = Ok a
one _ = Err NotSpelled

abbrev pub two : List (List ℕ) → Found (List ℕ × List ℕ)
two (a ∷ rest) = one rest >>= λ b. Ok (a, b)
two [] = Err NotSpelled

abbrev pub three : List (List ℕ) → Found (List ℕ × List ℕ × List ℕ)
three (a ∷ rest) = two rest >>= λ v. Ok (a, v.0, v.1)
three [] = Err NotSpelled

-- the field after a word, of exactly these two
abbrev pub after : List ℕ → List (List ℕ) → Found (List ℕ)
after word fields = two fields >>= λ f. if bytes_eq f.0 word then Ok f.1 else Err NotSpelled
