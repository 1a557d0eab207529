-- The text of the edges that an elimination has killed, each with its rank.
use Rattle.std.specs.Prelude.{ℕ, ◌==◌, Bool, not, List, [], ◌∷◌, ◌++◌, filter, length, slice_index, codes, decimal}
use Rattle.std.specs.List.{range_with_len}
use Rattle.lmt_network.specs.Network.{NetworkParts, edge_at}
use Rattle.cert_text.specs.Texts.{block, count_line, edge_fields, lines_text}

-- the rank of the edge is above 0
abbrev pub is_killed : List ℕ → ℕ → Bool
is_killed ranks e = not (slice_index ranks e == 0)

-- the numbers of the killed edges, ascending
abbrev pub killed : List ℕ → List ℕ
killed ranks = filter (is_killed ranks) (range_with_len 0 (length ranks))

-- a killed edge: the numbers of its ends, and its rank
abbrev pub kill_fields : NetworkParts → List ℕ → ℕ → List (List ℕ)
kill_fields n ranks e = edge_fields (edge_at n e) ++ decimal (slice_index ranks e) ∷ []

-- what text it is and of which version, how many candidate edges there are, and the killed ones with their ranks
unfoldable pub kill_lines : NetworkParts → List ℕ → List (List ℕ)
kill_lines n ranks =
    codes "mwt-kills 1"
    ∷ count_line (codes "candidates") (length n.edges)
    ∷ (block (codes "killed") (kill_fields n ranks) (killed ranks) ++ codes "end" ∷ [])

abbrev pub kill_text : NetworkParts → List ℕ → List ℕ
kill_text n ranks = lines_text (kill_lines n ranks)
