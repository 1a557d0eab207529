-- The words of the marks.
-- First stand the mark words, with a bit for each edge, 64 to a word: the bit is 1 once the edge is killed. Then come two
-- counters: of the kills that have begun, and of those that have finished. A counter stands 16 words, which are 128 bytes,
-- from the words before it and after it, so that it has no cache line in common with what other threads use.
use Rattle.std.specs.Prelude.{ℕ, ◌+◌, ◌*◌, ◌/◌, List, length}
use Rattle.lmt_network.specs.Network.{NetworkParts}
use Rattle.mark_seats.specs.Bits.{bit_of}

-- the mark of the edge e, which is its bit
abbrev pub mark_of : List ℕ → ℕ → ℕ
mark_of ws e = bit_of ws e

-- how many mark words there are
abbrev pub mark_words : NetworkParts → ℕ
mark_words n = length n.edges / 64 + 1

-- the number of the word that counts the kills that have begun
abbrev pub begun_word : NetworkParts → ℕ
begun_word n = length n.edges / 64 + 16

-- the number of the word that counts the kills that have finished
abbrev pub finished_word : NetworkParts → ℕ
finished_word n = length n.edges / 64 + 32

-- how many words there are in all
abbrev pub word_count : NetworkParts → ℕ
word_count n = length n.edges / 64 + 48

-- the most kills that can begin: each seat tries each edge at most once
abbrev pub most_kills : NetworkParts → ℕ
most_kills n = 65 * length n.edges
