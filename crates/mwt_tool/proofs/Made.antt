-- The text of a made file, part by part.
use Rattle.std.proofs.Common.{◌≡◌, ℕ, ◌+◌, ◌<◌, ◌≤◌, ◌^◌, List, [], ◌∷◌, ◌++◌, length, map, codes, decimal, arith, sym, ap, subst, ◌∙◌, append_assoc}
use Rattle.std.proofs.lemmas.Fmt.{length-decimal-le}
use Rattle.std.proofs.lemmas.List.{length-append}
use Rattle.std.proofs.lemmas.Grind.{flat_map-append}
use Rattle.std.proofs.lemmas.List.FromFn.{map-range_with_len_more}
use Rattle.std.specs.List.{range_with_len}
use Rattle.mwt_base.specs.Line.{line}
use Rattle.cert_text.specs.Texts.{Grows, lines_text}
use Rattle.cert_text.proofs.Growing.{grows_then}
use Rattle.mwt_tool.specs.Makes.{header_lines, made_text, node_line, node_lines}

-- a line feed after two texts that a dash parts
dash_then : (s n rest : List ℕ) → ((s ++ 45 ∷ n) ++ 10 ∷ []) ++ rest ≡ s ++ (45 ∷ (n ++ 10 ∷ rest))
dash_then s n rest = append_assoc (s ++ 45 ∷ n) (10 ∷ []) rest ∙ append_assoc s (45 ∷ n) (10 ∷ rest)

-- the lines before the nodes, as they are written at once
abbrev pub header_text : List ℕ → List ℕ → List ℕ
header_text seed n =
    codes "NAME : mwt-"
    ++ (seed
    ++ (codes "-"
    ++ (n
    ++ (codes "\nTYPE : TSP\nDIMENSION : " ++ (n ++ codes "\nEDGE_WEIGHT_TYPE : EUC_2D\nNODE_COORD_SECTION\n")))))

pub header_is : (seed n : ℕ) → header_text (decimal seed) (decimal n) ≡ lines_text (header_lines seed n)
unfolding header_lines
header_is seed n =
    let end = codes "EDGE_WEIGHT_TYPE : EUC_2D\nNODE_COORD_SECTION\n" in
    let dimension = sym (append_assoc (decimal n) (10 ∷ []) end) in
    ap (λ rest. codes "NAME : mwt-" ++ (decimal seed ++ (45 ∷ (decimal n ++ 10 ∷ (codes "TYPE : TSP\nDIMENSION : " ++ rest))))) dimension
    ∙ ap (λ t. codes "NAME : mwt-" ++ t) (sym (dash_then (decimal seed) (decimal n) (codes "TYPE : TSP\nDIMENSION : " ++ ((decimal n ++ 10 ∷ []) ++ end))))

six : (a s b n c d : List ℕ) → length (a ++ (s ++ (b ++ (n ++ (c ++ (n ++ d)))))) ≡ length a + (length s + (length b + (length n + (length c + (length n + length d)))))
six a s b n c d = grind (arith, length-append)

pub header_short : (seed n : ℕ) → seed < 2 ^ 32 → n < 2 ^ 32 → length (header_text (decimal seed) (decimal n)) ≤ 200
header_short seed n fits small =
    let s = length-decimal-le 10 seed (omega arith) (omega arith) (omega arith) in
    let k = length-decimal-le 10 n (omega arith) (omega arith) (omega arith) in
    let all = six (codes "NAME : mwt-") (decimal seed) (codes "-") (decimal n) (codes "\nTYPE : TSP\nDIMENSION : ") (codes "\nEDGE_WEIGHT_TYPE : EUC_2D\nNODE_COORD_SECTION\n") in
    omega (arith, all, s, k)

-- one node more
pub node_more : (seed i : ℕ) (a b c : List ℕ) → Grows a b (map (node_line seed) (range_with_len 1 i)) → Grows b c (node_line seed (i + 1) ∷ [])
    → Grows a c (map (node_line seed) (range_with_len 1 (i + 1)))
node_more seed i a b c before one =
    subst (Grows a c) (sym (map-range_with_len_more (node_line seed) 1 i (i + 1) (omega arith)))
    (grows_then a b c (map (node_line seed) (range_with_len 1 i)) (node_line seed (i + 1) ∷ []) before one)

-- the whole file
pub made_is : (seed n : ℕ) (a b c : List ℕ) → a ≡ lines_text (header_lines seed n) → Grows a b (node_lines seed n) → c ≡ b ++ codes "EOF\n" → c ≡ made_text seed n
made_is seed n a b c head nodes end =
    let whole = grows_then a b c (node_lines seed n) (codes "EOF" ∷ []) nodes end in
    whole ∙ ap (λ (t : List ℕ). t ++ lines_text (node_lines seed n ++ codes "EOF" ∷ [])) head
    ∙ sym (flat_map-append line (header_lines seed n) (node_lines seed n ++ codes "EOF" ∷ []))

-- three short fields make a short line
pub line_short : (old new i x y : List ℕ) → new ≡ old ++ (i ++ (32 ∷ (x ++ (32 ∷ (y ++ 10 ∷ []))))) → length i ≤ 10 → length x ≤ 10 → length y ≤ 10
    → length new ≤ length old + 40
line_short old new i x y is a b c = rw is (grind (arith, length-append))
