-- The words of the tickets.
-- First stand the marks, a word for each edge: 0 while the edge is live, and its rank once it is killed. Then comes `issued`,
-- which counts the tickets that were drawn. It stands 16 words, which are 128 bytes, from the words before it and after it,
-- so that it has no cache line in common with what other threads use.
use Rattle.std.specs.Prelude.{ℕ, ◌+◌, ◌*◌, List, length, slice_index}
use Rattle.lmt_network.specs.Network.{NetworkParts}

-- the number of the word that counts the tickets
abbrev pub issued_word : NetworkParts → ℕ
issued_word n = length n.edges + 16

-- how many words there are in all
abbrev pub word_count : NetworkParts → ℕ
word_count n = length n.edges + 32

-- how many tickets were drawn
abbrev pub issued : NetworkParts → List ℕ → ℕ
issued n ws = slice_index ws (issued_word n)

-- the most tickets that can be drawn: each seat tries each edge at most once
abbrev pub most_tickets : NetworkParts → ℕ
most_tickets n = 65 * length n.edges
