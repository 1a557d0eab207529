-- In a file of which no line fails no two nodes have one number.
use Rattle.std.proofs.Common.{◌≡◌, ◌≢◌, ℕ, zero, suc, ◌<◌, unsigned_abs, Bool, true, false, not, ◌&&◌, ◌||◌, cond, ltb, find, List, [], ◌∷◌, ◌++◌, length, map, Option, Some, None, AllPairs, inl, inr, refl, sym, ap, ◌∙◌, subst, append_assoc, arith}
use Rattle.std.specs.List.{list_any, list_all, cons_option}
use Rattle.std.specs.Option.{option_or, option_map}
use Rattle.std.proofs.lemmas.Bool.{cases_Bool, both_ways, eq-eqb}
use Rattle.std.proofs.lemmas.List.{append-nil, get_or-map, length-map}
use Rattle.std.proofs.lemmas.List.Folds.{list_any_at}
use Rattle.std.proofs.lemmas.List.Quantifiers.{all_pairs_push}
use Rattle.exact_predicates.specs.Merging.{has_distinct_ids, is_in_range}
use Rattle.exact_predicates.proofs.DistinctIds.{Decides-has_distinct_ids}
use Rattle.tsplib_points.specs.declared.file.Refusal.{Refusal}
use Rattle.tsplib_points.specs.declared.reason.Reason.{Reason}
use Rattle.tsplib_points.specs.declared.reason.Reason.TheVariants.{NotWhole, RepeatedId}
use Rattle.tsplib_points.specs.Reasons.{refused_at}
use Rattle.tsplib_points.specs.Lines.{Line, is_blank_line}
use Rattle.tsplib_points.specs.Header.{is_end, is_section, lines_to_end, section_lines}
use Rattle.tsplib_points.specs.Real.{Real, size_times, times, signed}
use Rattle.tsplib_points.specs.Nodes.{Node, node_of, nodes, node_reason, is_whole_node, has_number}
use Rattle.tsplib_points.specs.Refusals.{line_reason, first_failing, scaled, is_large}
use Rattle.tsplib_points.proofs.ScaledPoints.{nowhere}
use Rattle.tsplib_points.proofs.Growth.{nodes_ended, nodes_header, nodes_grow}
use Rattle.tsplib_points.proofs.Steps.{blank_nothing}

abbrev pub HaveOwnNumbers : List Node → Type 0
HaveOwnNumbers ns = AllPairs (λ m n. m.number ≢ n.number) ns

-- a node that breaks no rule has a number of its own
new_number : (whole repeated : Bool) → cond (not whole) (Some NotWhole) (cond repeated (Some RepeatedId) None) ≡ None → repeated ≡ false
new_number false repeated h = absurd (cc)
new_number true true h = absurd (cc)
new_number true false h = refl

own_number : (ns : List Node) (o : Option Node) → node_reason ns o ≡ None → HaveOwnNumbers ns → HaveOwnNumbers (ns ++ cons_option o [])
own_number ns None h own = absurd (cc)
own_number ns (Some n) h own =
    let new = new_number (is_whole_node 6 n) (list_any (has_number n.number) ns) h in
    all_pairs_push (λ m n. m.number ≢ n.number) ns n own
    (λ k d i same. both_ways _ new (list_any_at (has_number n.number) ns k d i (eq-eqb _ _ same)))

-- One more line that does not fail, by the case that it is in.
next_line : (before : List Line) (l : Line) → line_reason before l ≡ None → HaveOwnNumbers (nodes before) → HaveOwnNumbers (nodes (before ++ l ∷ []))
unfolding line_reason
next_line before l fine own =
    elim (cases_Bool (list_any is_end before)) [
      | inl ended ↦ let P : List Node → Type 0 = HaveOwnNumbers in subst P (sym (nodes_ended before l (inl ended))) own
      | inr going ↦ elim (cases_Bool (is_end l)) [
        | inl here ↦ let P : List Node → Type 0 = HaveOwnNumbers in subst P (sym (nodes_ended before l (inr here))) own
        | inr more ↦ elim (cases_Bool (list_any is_section before)) [
          | inr header ↦ let P : List Node → Type 0 = HaveOwnNumbers in subst P (sym (nodes_header before l going more header)) own
          | inl section ↦
              let P : List Node → Type 0 = HaveOwnNumbers in
              subst P (sym (nodes_grow before l going more section)) (elim (cases_Bool (is_blank_line l)) [
                | inl blank ↦ rw ((blank_nothing l.number l.text blank).node, append-nil (nodes before)) own
                | inr some ↦ own_number (nodes before) (node_of l) (rw (some, going, section, more) at fine) own
              ])
        ]
      ]
    ]

-- both parts of an answer are missing
no_reason : (o : Option Reason) (line : ℕ) (later : Option Refusal) → option_or (option_map (refused_at line) o) later ≡ None → (o ≡ None) × (later ≡ None)
no_reason None line later h = (refl, h)
no_reason (Some r) line later h = absurd (cc)

all_lines : (before rest : List Line) → first_failing before rest ≡ None → HaveOwnNumbers (nodes before) → HaveOwnNumbers (nodes (before ++ rest))
all_lines before [] fine own = rw (append-nil before) own
all_lines before (l ∷ rest) fine own =
    let parts = no_reason (line_reason before l) l.number (first_failing (before ++ l ∷ []) rest) fine in
    let P : List Line → Type 0 = λ ls. HaveOwnNumbers (nodes ls) in
    subst P (append_assoc before (l ∷ []) rest) (all_lines (before ++ l ∷ []) rest parts.1 (next_line before l parts.0 own))

no_lines : HaveOwnNumbers (nodes [])
unfolding nodes section_lines lines_to_end
no_lines = λ i j d below within. absurd (omega arith)

pub own_numbers : (ls : List Line) → first_failing [] ls ≡ None → HaveOwnNumbers (nodes ls)
own_numbers ls fine = all_lines [] ls fine no_lines

-- So the points of such a file have distinct ids.
pub distinct_ids : (k : ℕ) (ls : List Line) → first_failing [] ls ≡ None → has_distinct_ids (map (scaled k) (nodes ls)) ≡ true
distinct_ids k ls fine =
    let ns = nodes ls in
    (Decides-has_distinct_ids (map (scaled k) ns)).1 (λ i j d below within same.
    let all = length-map ns (scaled k) in
    let last : j < length ns = omega arith in
    let first : i < length ns = omega arith in
    own_numbers ls fine i j nowhere below last
    (ap (λ p. p.id) (sym (get_or-map (scaled k) ns i nowhere d first)) ∙ same ∙ ap (λ p. p.id) (get_or-map (scaled k) ns j nowhere d last)))

-- No point is out of range where no node is too large.
signed_size : (negative : Bool) (n : ℕ) → unsigned_abs (signed negative n) ≡ n
signed_size false n = refl
signed_size true zero = refl
signed_size true (suc n) = refl

size_of : (k : ℕ) (r : Real) → unsigned_abs (times k r) ≡ size_times k r
unfolding times
size_of k r = signed_size r.negative (size_times k r)

small_node : (a b : Bool) → (a || b) ≡ false → (not a && not b) ≡ true
small_node false false h = refl
small_node true b h = absurd (cc)
small_node false true h = absurd (cc)

not_found : (large : Bool) (n : Node) (o : Option Node) → cond large (Some n) o ≡ None → (large ≡ false) × (o ≡ None)
not_found false n o h = (refl, h)
not_found true n o h = absurd (cc)

pub all_in_range : (k : ℕ) (ns : List Node) → find (is_large k) ns ≡ None → list_all is_in_range (map (scaled k) ns) ≡ true
all_in_range k [] h = refl
all_in_range k (n ∷ ns) h =
    let parts = not_found (is_large k n) n (find (is_large k) ns) h in
    rw (size_of k n.x, size_of k n.y, small_node (ltb 1000000000 (size_times k n.x)) (ltb 1000000000 (size_times k n.y)) parts.0, all_in_range k ns parts.1) refl
