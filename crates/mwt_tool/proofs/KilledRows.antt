-- Killed edges, one after the other.
use Rattle.std.proofs.Common.{◌≡◌, ℕ, ◌+◌, List, [], ◌∷◌, ◌++◌, length, map, Bool, true, false, cond, codes, decimal, filter, arith, ap, sym, ◌∙◌, subst}
use Rattle.std.specs.Prelude.{slice_index}
use Rattle.std.specs.List.{range_with_len}
use Rattle.std.proofs.lemmas.List.{append-nil, map-append, map-id}
use Rattle.std.proofs.lemmas.List.Elements.{filter-append}
use Rattle.std.proofs.lemmas.List.FromFn.{map-range_with_len_more}
use Rattle.exact_predicates.specs.declared.edge.Edge.{Edge}
use Rattle.cert_text.specs.Texts.{Grows, count_line, edge_fields, spaced}
use Rattle.cert_text.proofs.Growing.{grows_then}
use Rattle.lmt_network.specs.Network.{NetworkParts, edge_at}
use Rattle.mwt_tool.specs.Kills.{is_killed, kill_fields, kill_lines, kill_text, killed}

-- the killed ones of the first k edges
abbrev pub killed_before : List ℕ → ℕ → List ℕ
killed_before ranks k = filter (is_killed ranks) (range_with_len 0 k)

-- the lines of these
abbrev pub kill_rows : NetworkParts → List ℕ → List ℕ → List (List ℕ)
kill_rows n ranks es = map (λ e. spaced (kill_fields n ranks e)) es

-- the edge of this number, where it is killed
abbrev pub killed_one : Bool → ℕ → List ℕ
killed_one b e = cond b (e ∷ []) []

one_filtered : (p : ℕ → Bool) (e : ℕ) (b : Bool) → p e ≡ b → filter p (e ∷ []) ≡ killed_one b e
one_filtered p e b is = ap (λ (c : Bool). killed_one c e) is

range_next : (k : ℕ) → range_with_len 0 (k + 1) ≡ range_with_len 0 k ++ k ∷ []
range_next k =
    sym (map-id (range_with_len 0 (k + 1)))
    ∙ (map-range_with_len_more (λ (e : ℕ). e) 0 k k (omega arith) ∙ ap (λ (es : List ℕ). es ++ k ∷ []) (map-id (range_with_len 0 k)))

-- one edge further
killed_next : (ranks : List ℕ) (k : ℕ) (b : Bool) → is_killed ranks k ≡ b → killed_before ranks (k + 1) ≡ killed_before ranks k ++ killed_one b k
killed_next ranks k b is =
    ap (filter (is_killed ranks)) (range_next k)
    ∙ (filter-append (is_killed ranks) (range_with_len 0 k) (k ∷ [])
    ∙ ap (λ (es : List ℕ). killed_before ranks k ++ es) (one_filtered (is_killed ranks) k b is))

pub killed_next_dead : (ranks : List ℕ) (k : ℕ) → is_killed ranks k ≡ true → killed_before ranks (k + 1) ≡ killed_before ranks k ++ k ∷ []
killed_next_dead ranks k is = killed_next ranks k true is

pub killed_next_live : (ranks : List ℕ) (k : ℕ) → is_killed ranks k ≡ false → killed_before ranks (k + 1) ≡ killed_before ranks k
killed_next_live ranks k is = killed_next ranks k false is ∙ append-nil (killed_before ranks k)

-- with the line of the next edge, which is killed
pub rows_next : (n : NetworkParts) (ranks : List ℕ) (k : ℕ) (a b c : List ℕ) (edge : Edge) (rank : ℕ) → is_killed ranks k ≡ true
    → edge ≡ edge_at n k → rank ≡ slice_index ranks k → Grows a b (kill_rows n ranks (killed_before ranks k))
    → Grows b c (spaced (edge_fields edge ++ decimal rank ∷ []) ∷ []) → Grows a c (kill_rows n ranks (killed_before ranks (k + 1)))
rows_next n ranks k a b c edge rank is edge_is rank_is before row =
    let f : ℕ → List ℕ = λ e. spaced (kill_fields n ranks e) in
    let one : Grows b c (f k ∷ []) = subst (λ (m : ℕ). Grows b c (spaced (edge_fields (edge_at n k) ++ decimal m ∷ []) ∷ [])) rank_is
    (subst (λ (x : Edge). Grows b c (spaced (edge_fields x ++ decimal rank ∷ []) ∷ [])) edge_is row) in
    subst (Grows a c) (sym (ap (map f) (killed_next_dead ranks k is) ∙ map-append f (killed_before ranks k) (k ∷ [])))
    (grows_then a b c (map f (killed_before ranks k)) (f k ∷ []) before one)

-- the whole text, part by part
pub kill_text_grown : (n : NetworkParts) (ranks : List ℕ) (a b c d e f : List ℕ) (count k : ℕ) → count ≡ length n.edges → k ≡ length (killed ranks) → a ≡ []
    → Grows a b (codes "mwt-kills 1" ∷ []) → Grows b c (count_line (codes "candidates") count ∷ []) → Grows c d (count_line (codes "killed") k ∷ [])
    → Grows d e (kill_rows n ranks (killed ranks)) → Grows e f (codes "end" ∷ []) → f ≡ kill_text n ranks
unfolding kill_lines
kill_text_grown n ranks a b c d e f count k count_is k_is none head candidates kills rows end =
    let of_edges = count_line (codes "candidates") (length n.edges) ∷ [] in
    let of_kills = count_line (codes "killed") (length (killed ranks)) ∷ [] in
    let lines = kill_rows n ranks (killed ranks) in
    let last = codes "end" ∷ [] in
    let all = grows_then a b f (codes "mwt-kills 1" ∷ []) (of_edges ++ (of_kills ++ (lines ++ last))) head
    (grows_then b c f of_edges (of_kills ++ (lines ++ last)) (subst (λ (m : ℕ). Grows b c (count_line (codes "candidates") m ∷ [])) count_is candidates)
    (grows_then c d f of_kills (lines ++ last) (subst (λ (m : ℕ). Grows c d (count_line (codes "killed") m ∷ [])) k_is kills)
    (grows_then d e f lines last rows end))) in
    rw none at all
