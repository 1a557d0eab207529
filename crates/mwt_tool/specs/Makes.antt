-- The point file that `make` writes: points at random places, each coordinate by itself from the seed and its place.
use Rattle.std.specs.Prelude.{ℕ, ◌+◌, ◌-◌, ◌*◌, ◌/◌, ◌%◌, ◌^◌, List, [], ◌∷◌, ◌++◌, map, bit_xor, codes, decimal}
use Rattle.std.specs.List.{range_with_len}
use Rattle.cert_text.specs.Texts.{lines_text, spaced}

-- the lowest 32 bits of a number, as a word
abbrev pub word_of : ℕ → ℕ
word_of n = n % 2 ^ 32

-- a word xor the word without its k lowest bits
abbrev pub xor_shift : ℕ → ℕ → ℕ
xor_shift k w = bit_xor w (w / 2 ^ k)

-- The mixer of 32-bit words known as lowbias32: three xorshifts, with a product by an odd number between each two.
unfoldable pub mixed : ℕ → ℕ
mixed w = xor_shift 16 (word_of (2221713035 * xor_shift 15 (word_of (2146121005 * xor_shift 16 w))))

-- the coordinate at a place, from 0 to 1,048,575: the upper 20 bits of a mixed word
abbrev pub coordinate : ℕ → ℕ → ℕ
coordinate seed place = mixed (word_of (word_of (2654435769 * seed) + place)) / 2 ^ 12

-- the line of the node i, from 1 on: its x stands at an odd place, and its y after it
abbrev pub node_line : ℕ → ℕ → List ℕ
node_line seed i = spaced (decimal i ∷ decimal (coordinate seed (2 * i - 1)) ∷ decimal (coordinate seed (2 * i)) ∷ [])

-- the lines before the nodes, of which there are n
unfoldable pub header_lines : ℕ → ℕ → List (List ℕ)
header_lines seed n =
    (codes "NAME : mwt-" ++ (decimal seed ++ (codes "-" ++ decimal n)))
    ∷ codes "TYPE : TSP"
    ∷ (codes "DIMENSION : " ++ decimal n)
    ∷ codes "EDGE_WEIGHT_TYPE : EUC_2D"
    ∷ codes "NODE_COORD_SECTION"
    ∷ []

-- the lines of the nodes 1 to n
abbrev pub node_lines : ℕ → ℕ → List (List ℕ)
node_lines seed n = map (node_line seed) (range_with_len 1 n)

-- the file of n points for this seed
abbrev pub made_text : ℕ → ℕ → List ℕ
made_text seed n = lines_text (header_lines seed n ++ (node_lines seed n ++ codes "EOF" ∷ []))
