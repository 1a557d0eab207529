-- What one more line adds to the lines of the header and to the nodes.
use Rattle.std.proofs.Common.{◌≡◌, true, false, List, [], ◌∷◌, ◌++◌, None, ◌⊎◌, inl, inr, refl, sym, ap, ◌∙◌, find, filter_map}
use Rattle.std.specs.List.{list_any, after_first, before_first, cons_option}
use Rattle.std.specs.Option.{option_and_then}
use Rattle.std.proofs.lemmas.Bool.{cases_Bool}
use Rattle.std.proofs.lemmas.List.Elements.{filter_map-append}
use Rattle.tsplib_points.specs.Lines.{Line}
use Rattle.tsplib_points.specs.Header.{is_end, is_section, is_dimension, lines_to_end, header_lines, section_lines, dimension_in, dimension}
use Rattle.tsplib_points.specs.Nodes.{node_of, nodes}
use Rattle.tsplib_points.proofs.Passes.{before_none, after_none, before_some, after_some, before_last, after_last, any_push_no, find_push_no, find_push_yes}

-- where EOF came or comes, no line is added
lines_closed : (before : List Line) (l : Line) → (list_any is_end before ≡ true) ⊎ (is_end l ≡ true) → lines_to_end (before ++ l ∷ []) ≡ lines_to_end before
unfolding lines_to_end
lines_closed before l (inl e) = before_some is_end before (l ∷ []) e
lines_closed before l (inr e) = elim (cases_Bool (list_any is_end before)) [
  | inl i ↦ before_some is_end before (l ∷ []) i
  | inr i ↦ before_last is_end before l i e ∙ sym (before_none is_end before i)
]

-- before EOF all lines count
pub lines_open : (before : List Line) → list_any is_end before ≡ false → lines_to_end before ≡ before
unfolding lines_to_end
lines_open before e = before_none is_end before e

-- and one more that is not EOF
lines_grow : (before : List Line) (l : Line) → list_any is_end before ≡ false → is_end l ≡ false → lines_to_end (before ++ l ∷ []) ≡ before ++ l ∷ []
lines_grow before l e i = lines_open (before ++ l ∷ []) (any_push_no is_end before l i ∙ e)

-- the lines of the header before it ends
pub header_open : (before : List Line) → list_any is_end before ≡ false → list_any is_section before ≡ false → header_lines before ≡ before
unfolding header_lines
header_open before e s = ap (before_first is_section) (lines_open before e) ∙ before_none is_section before s

-- and one more of them
pub header_grows : (before : List Line) (l : Line) → list_any is_end before ≡ false → list_any is_section before ≡ false → is_end l ≡ false → is_section l ≡ false
    → header_lines (before ++ l ∷ []) ≡ before ++ l ∷ []
header_grows before l e s i j = header_open (before ++ l ∷ []) (any_push_no is_end before l i ∙ e) (any_push_no is_section before l j ∙ s)

-- the header ends at EOF
pub header_ended : (before : List Line) (l : Line) → (list_any is_end before ≡ true) ⊎ (is_end l ≡ true) → header_lines (before ++ l ∷ []) ≡ header_lines before
unfolding header_lines
header_ended before l h = ap (before_first is_section) (lines_closed before l h)

-- and at NODE_COORD_SECTION
pub header_closed : (before : List Line) (l : Line) → list_any is_end before ≡ false → is_end l ≡ false → (list_any is_section before ≡ true) ⊎ (is_section l ≡ true)
    → header_lines (before ++ l ∷ []) ≡ header_lines before
unfolding header_lines
header_closed before l e i h = ap (before_first is_section) (lines_grow before l e i) ∙ go h ∙ ap (before_first is_section) (sym (lines_open before e)) where
  go : (list_any is_section before ≡ true) ⊎ (is_section l ≡ true) → before_first is_section (before ++ l ∷ []) ≡ before_first is_section before
  go (inl s) = before_some is_section before (l ∷ []) s
  go (inr s) = elim (cases_Bool (list_any is_section before)) [
    | inl j ↦ before_some is_section before (l ∷ []) j
    | inr j ↦ before_last is_section before l j s ∙ sym (before_none is_section before j)
  ]

-- a line adds to the header or does not
pub header_cases : (before : List Line) (l : Line) → (header_lines (before ++ l ∷ []) ≡ header_lines before) ⊎ (header_lines (before ++ l ∷ []) ≡ header_lines before ++ l ∷ [])
header_cases before l = elim (cases_Bool (list_any is_end before)) [
  | inl e ↦ inl (header_ended before l (inl e))
  | inr e ↦ elim (cases_Bool (is_end l)) [
    | inl i ↦ inl (header_ended before l (inr i))
    | inr i ↦ elim (cases_Bool (list_any is_section before)) [
      | inl s ↦ inl (header_closed before l e i (inl s))
      | inr s ↦ elim (cases_Bool (is_section l)) [
        | inl j ↦ inl (header_closed before l e i (inr j))
        | inr j ↦ inr (header_grows before l e s i j ∙ ap (λ ls. ls ++ l ∷ []) (sym (header_open before e s)))
      ]
    ]
  ]
]

-- a line that is no DIMENSION changes nothing of what is told
pub dimension_stays : (before : List Line) (l : Line) → is_dimension l ≡ false → dimension (before ++ l ∷ []) ≡ dimension before
unfolding dimension
dimension_stays before l d = elim (header_cases before l) [
  | inl e ↦ ap (λ ls. option_and_then dimension_in (find is_dimension ls)) e
  | inr e ↦ ap (λ ls. option_and_then dimension_in (find is_dimension ls)) e ∙ ap (option_and_then dimension_in) (find_push_no is_dimension (header_lines before) l d)
]

-- nor of whether it is told
pub any_dimension_stays : (before : List Line) (l : Line) → is_dimension l ≡ false → list_any is_dimension (header_lines (before ++ l ∷ [])) ≡ list_any is_dimension (header_lines before)
any_dimension_stays before l d = elim (header_cases before l) [
  | inl e ↦ ap (list_any is_dimension) e
  | inr e ↦ ap (list_any is_dimension) e ∙ any_push_no is_dimension (header_lines before) l d
]

-- nor does any line where the header has the same lines
pub dimension_same : (before : List Line) (l : Line) → header_lines (before ++ l ∷ []) ≡ header_lines before → dimension (before ++ l ∷ []) ≡ dimension before
unfolding dimension
dimension_same before l e = ap (λ ls. option_and_then dimension_in (find is_dimension ls)) e

-- the first DIMENSION tells the number
pub dimension_first : (before : List Line) (l : Line) → list_any is_end before ≡ false → list_any is_section before ≡ false → is_end l ≡ false → is_section l ≡ false
    → list_any is_dimension before ≡ false → is_dimension l ≡ true → dimension (before ++ l ∷ []) ≡ dimension_in l
unfolding dimension
dimension_first before l e s i j none d =
    ap (λ ls. option_and_then dimension_in (find is_dimension ls)) (header_grows before l e s i j)
    ∙ ap (option_and_then dimension_in) (find_push_yes is_dimension before l none d)

-- where EOF came or comes, no node is added
pub nodes_ended : (before : List Line) (l : Line) → (list_any is_end before ≡ true) ⊎ (is_end l ≡ true) → nodes (before ++ l ∷ []) ≡ nodes before
unfolding nodes section_lines
nodes_ended before l h = ap (λ ls. filter_map node_of (after_first is_section ls)) (lines_closed before l h)

-- nor is one before the section
pub nodes_header : (before : List Line) (l : Line) → list_any is_end before ≡ false → is_end l ≡ false → list_any is_section before ≡ false → nodes (before ++ l ∷ []) ≡ nodes before
unfolding nodes section_lines
nodes_header before l e i s =
    ap (λ ls. filter_map node_of (after_first is_section ls)) (lines_grow before l e i) ∙ ap (filter_map node_of) none
    ∙ ap (λ ls. filter_map node_of (after_first is_section ls)) (sym (lines_open before e)) where
      none : after_first is_section (before ++ l ∷ []) ≡ after_first is_section before
      none = elim (cases_Bool (is_section l)) [
        | inl j ↦ after_last is_section before l s j ∙ sym (after_none is_section before s)
        | inr j ↦ after_none is_section (before ++ l ∷ []) (any_push_no is_section before l j ∙ s) ∙ sym (after_none is_section before s)
      ]

-- in the section the node of the line is added, if it has one
pub nodes_grow : (before : List Line) (l : Line) → list_any is_end before ≡ false → is_end l ≡ false → list_any is_section before ≡ true
    → nodes (before ++ l ∷ []) ≡ nodes before ++ cons_option (node_of l) []
unfolding nodes section_lines
nodes_grow before l e i s =
    ap (λ ls. filter_map node_of (after_first is_section ls)) (lines_grow before l e i)
    ∙ ap (filter_map node_of) (after_some is_section before (l ∷ []) s)
    ∙ filter_map-append node_of (after_first is_section before) (l ∷ [])
    ∙ ap (λ ls. filter_map node_of (after_first is_section ls) ++ cons_option (node_of l) []) (sym (lines_open before e))

-- a line that is no node line adds none
pub nodes_stay : (before : List Line) (l : Line) → node_of l ≡ None → nodes (before ++ l ∷ []) ≡ nodes before
nodes_stay before l n = elim (cases_Bool (list_any is_end before)) [
  | inl e ↦ nodes_ended before l (inl e)
  | inr e ↦ elim (cases_Bool (is_end l)) [
    | inl i ↦ nodes_ended before l (inr i)
    | inr i ↦ elim (cases_Bool (list_any is_section before)) [
      | inl s ↦ nodes_grow before l e i s ∙ rw n (append_none (nodes before))
      | inr s ↦ nodes_header before l e i s
    ]
  ]
] where
  append_none : {X : Type 0} (xs : List X) → xs ++ [] ≡ xs
  append_none [] = refl
  append_none (x ∷ xs) = ap (λ u. x ∷ u) (append_none xs)
