-- A pass goes over one more line.
use Rattle.std.proofs.Common.{◌≡◌, ℕ, zero, suc, Bool, true, false, ◌||◌, List, [], ◌∷◌, ◌++◌, take, drop, Some, None, is_some, inl, inr, refl, sym, ap, ◌∙◌, bytes_eq, codes}
use Rattle.std.specs.List.{list_any, list_all, prefix_len, before_first, cons_option}
use Rattle.std.specs.Ordering.{nat_cmp}
use Rattle.std.specs.BTreeSet.{contains}
use Rattle.std.proofs.lemmas.Bool.{cases_Bool, and_right, and_parts}
use Rattle.std.proofs.lemmas.Slice.Eq.{bytes_eq-Decides}
use Rattle.tsplib_points.specs.declared.node.KeptNode.{KeptNode}
use Rattle.tsplib_points.specs.declared.gather.LinePass.{LinePass}
use Rattle.tsplib_points.specs.declared.reason.Reason.TheVariants.{AfterEnd}
use Rattle.tsplib_points.specs.Lines.{Line, is_blank, is_empty, trim_front, trim_back, trim, words}
use Rattle.tsplib_points.specs.Numbers.{small_number}
use Rattle.tsplib_points.specs.Header.{Parts, parts_of, is_colon, is_end_mark, is_section_mark, is_dimension_entry, header_reason, is_end, is_section, is_dimension, lines_to_end, header_lines, section_lines, dimension}
use Rattle.tsplib_points.specs.Nodes.{Node, node_of, nodes, node_reason, has_number}
use Rattle.tsplib_points.specs.Refusals.{line_reason}
use Rattle.tsplib_points.specs.Gathering.{KeepsNode}
use Rattle.tsplib_points.specs.Passing.{IsPassed}
use Rattle.tsplib_points.proofs.Pieces.{one_suc, words_trim, words_none}
use Rattle.tsplib_points.proofs.Passes.{any_push, any_push_no, any_push_yes, all_zip_push}
use Rattle.tsplib_points.proofs.Growth.{header_open, header_grows, header_ended, header_closed, dimension_stays, any_dimension_stays, dimension_same, dimension_first, nodes_ended, nodes_header, nodes_grow, nodes_stay}

-- a text of blanks is nothing after them
blank_trim : (t : List ℕ) → list_all is_blank t ≡ true → trim_front t ≡ []
unfolding trim_front
blank_trim [] h = refl
blank_trim (b ∷ bs) h = elim (cases_Bool (is_blank b)) [
  | inl e ↦ rw e (ap (λ k. drop k (b ∷ bs)) (one_suc (prefix_len is_blank bs)) ∙ blank_trim bs (rw e at h))
  | inr e ↦ absurd (let g = rw e at h in cc)
]

-- nor is there more in a front of it
blank_take : (n : ℕ) (t : List ℕ) → list_all is_blank t ≡ true → list_all is_blank (take n t) ≡ true
blank_take zero t h = refl
blank_take (suc n) [] h = refl
blank_take (suc n) (b ∷ bs) h = elim (cases_Bool (is_blank b)) [
  | inl e ↦ rw e (blank_take n bs (rw e at h))
  | inr e ↦ absurd (let g = rw e at h in cc)
]

-- nothing has no blanks at its back
trim_back_none : trim_back [] ≡ []
unfolding trim_back
trim_back_none = refl

-- a blank line has no keyword
blank_keyword : (t : List ℕ) → list_all is_blank t ≡ true → (parts_of t).keyword ≡ []
unfolding parts_of trim
blank_keyword t h = ap trim_back (blank_trim (before_first is_colon t) (blank_take _ t h)) ∙ trim_back_none

-- a blank line is nothing
pub record IsNothing (l : Line) : Type 0 where
  pub end : is_end l ≡ false
  pub section : is_section l ≡ false
  pub dimension : is_dimension l ≡ false
  pub node : node_of l ≡ None

-- for its text has no keyword and no words
pub blank_nothing : (n : ℕ) (t : List ℕ) → list_all is_blank t ≡ true → IsNothing (record { number = n; text = t })
unfolding is_end is_section is_dimension is_end_mark is_section_mark is_dimension_entry node_of
blank_nothing n t h =
    let none = blank_keyword t h in
    let no_words : words t ≡ [] = words_trim t ∙ ap words (blank_trim t h) ∙ words_none in
    record {
      end = rw none refl;
      section = rw none refl;
      dimension = rw none (and_right (parts_of t).has_colon false refl);
      node = rw no_words refl;
    }

-- a line is judged by its place
pub reason_blank : (before : List Line) (l : Line) → list_all is_blank l.text ≡ true → line_reason before l ≡ None
unfolding line_reason
reason_blank before l b = rw b refl

-- after EOF
pub reason_ended : (before : List Line) (l : Line) → list_all is_blank l.text ≡ false → list_any is_end before ≡ true → line_reason before l ≡ Some AfterEnd
unfolding line_reason
reason_ended before l b e = rw (b, e) refl

-- in the header
pub reason_header : (before : List Line) (l : Line) → list_all is_blank l.text ≡ false → list_any is_end before ≡ false → list_any is_section before ≡ false
    → line_reason before l ≡ header_reason (list_any is_dimension before) (parts_of l.text)
unfolding line_reason
reason_header before l b e s = rw (b, e, s) refl

-- in the section, at EOF
pub reason_end : (before : List Line) (l : Line) → list_all is_blank l.text ≡ false → list_any is_end before ≡ false → list_any is_section before ≡ true → is_end l ≡ true
    → line_reason before l ≡ None
unfolding line_reason
reason_end before l b e s i = rw (b, e, s, i) refl

-- in the section, at a line that is not EOF
pub reason_section : (before : List Line) (l : Line) → list_all is_blank l.text ≡ false → list_any is_end before ≡ false → list_any is_section before ≡ true → is_end l ≡ false
    → line_reason before l ≡ node_reason (nodes before) (node_of l)
unfolding line_reason
reason_section before l b e s i = rw (b, e, s, i) refl

-- in the header it is known whether a DIMENSION came
pub dimension_known : (pass : LinePass) (before : List Line) → IsPassed pass before → pass.has_end ≡ false → pass.found.has_section ≡ false → list_any is_dimension before ≡ is_some pass.found.dimension
dimension_known pass before h e s = ap (list_any is_dimension) (sym (header_open before (sym h.end ∙ e) (sym h.section ∙ s))) ∙ sym h.some_told

-- what a test of bytes says
bytes_are : (xs ys : List ℕ) → bytes_eq xs ys ≡ true → xs ≡ ys
bytes_are xs ys h = (bytes_eq-Decides xs ys).0 h

-- EOF is no section line
pub end_no_section : (p : Parts) → is_end_mark p ≡ true → is_section_mark p ≡ false
unfolding is_end_mark is_section_mark
end_no_section p h =
    let word = bytes_are p.keyword (codes "EOF") (and_parts (bytes_eq p.keyword (codes "EOF")) (is_empty p.value) h).0 in
    rw word refl

-- before the first line
pub passes_none : (pass : LinePass) → pass.has_end ≡ false → pass.found.has_section ≡ false → pass.found.dimension ≡ None → pass.found.nodes.items ≡ [] → pass.numbers.keys ≡ []
    → IsPassed pass []
unfolding dimension header_lines lines_to_end nodes section_lines
passes_none pass e s d n k = record {
  end = e;
  section = s;
  told = d;
  some_told = ap is_some d;
  kept = rw n tt;
  numbers = λ q. rw k refl;
}

-- behind a line that is nothing
pub passes_nothing : (pass : LinePass) (before : List Line) (l : Line) → IsPassed pass before → IsNothing l → IsPassed pass (before ++ l ∷ [])
passes_nothing pass before l h n = record {
  end = h.end ∙ sym (any_push_no is_end before l n.end);
  section = h.section ∙ sym (any_push_no is_section before l n.section);
  told = h.told ∙ sym (dimension_stays before l n.dimension);
  some_told = h.some_told ∙ sym (any_dimension_stays before l n.dimension);
  kept = rw (nodes_stay before l n.node) h.kept;
  numbers = λ q. rw (nodes_stay before l n.node) (h.numbers q);
}

-- after EOF
pub passes_end : (pass : LinePass) (before : List Line) (l : Line) → IsPassed pass before → is_end_mark (parts_of l.text) ≡ true
    → IsPassed (record { found = pass.found; has_end = true; numbers = pass.numbers }) (before ++ l ∷ [])
unfolding is_end is_section
passes_end pass before l h i =
    let none = end_no_section (parts_of l.text) i in
    let same = header_ended before l (inr i) in
    record {
      end = sym (any_push_yes is_end before l i);
      section = h.section ∙ sym (any_push_no is_section before l none);
      told = h.told ∙ sym (dimension_same before l same);
      some_told = h.some_told ∙ ap (list_any is_dimension) (sym same);
      kept = rw (nodes_ended before l (inr i)) h.kept;
      numbers = λ q. rw (nodes_ended before l (inr i)) (h.numbers q);
    }

-- after NODE_COORD_SECTION
pub passes_section : (pass : LinePass) (before : List Line) (l : Line) → IsPassed pass before → pass.has_end ≡ false → pass.found.has_section ≡ false
    → is_end_mark (parts_of l.text) ≡ false → is_section_mark (parts_of l.text) ≡ true
    → IsPassed (record { found = record { has_section = true; dimension = pass.found.dimension; nodes = pass.found.nodes }; has_end = pass.has_end; numbers = pass.numbers }) (before ++ l ∷ [])
unfolding is_end is_section
passes_section pass before l h e s i j =
    let open_end = sym h.end ∙ e in
    let open_section = sym h.section ∙ s in
    let same = header_closed before l open_end i (inr j) in
    let stay = nodes_header before l open_end i open_section in
    record {
      end = h.end ∙ sym (any_push_no is_end before l i);
      section = sym (any_push_yes is_section before l j);
      told = h.told ∙ sym (dimension_same before l same);
      some_told = h.some_told ∙ ap (list_any is_dimension) (sym same);
      kept = rw stay h.kept;
      numbers = λ q. rw stay (h.numbers q);
    }

-- after the first DIMENSION
pub passes_dimension : (pass : LinePass) (before : List Line) (l : Line) (n : ℕ) → IsPassed pass before → pass.has_end ≡ false → pass.found.has_section ≡ false
    → is_some pass.found.dimension ≡ false
    → is_end_mark (parts_of l.text) ≡ false → is_section_mark (parts_of l.text) ≡ false → is_dimension_entry (parts_of l.text) ≡ true → small_number (parts_of l.text).value ≡ Some n
    → IsPassed (record { found = record { has_section = pass.found.has_section; dimension = Some n; nodes = pass.found.nodes }; has_end = pass.has_end; numbers = pass.numbers }) (before ++ l ∷ [])
unfolding is_end is_section is_dimension
passes_dimension pass before l n h e s none i j d v =
    let open_end = sym h.end ∙ e in
    let open_section = sym h.section ∙ s in
    let grows = header_grows before l open_end open_section i j in
    let stay = nodes_header before l open_end i open_section in
    record {
      end = h.end ∙ sym (any_push_no is_end before l i);
      section = h.section ∙ sym (any_push_no is_section before l j);
      told = sym v ∙ sym (dimension_first before l open_end open_section i j (dimension_known pass before h e s ∙ none) d);
      some_told = sym (ap (list_any is_dimension) grows ∙ any_push_yes is_dimension before l d);
      kept = rw stay h.kept;
      numbers = λ q. rw stay (h.numbers q);
    }

-- behind another line of the header
pub passes_entry : (pass : LinePass) (before : List Line) (l : Line) → IsPassed pass before → pass.has_end ≡ false → pass.found.has_section ≡ false
    → is_end_mark (parts_of l.text) ≡ false → is_section_mark (parts_of l.text) ≡ false → is_dimension_entry (parts_of l.text) ≡ false
    → IsPassed pass (before ++ l ∷ [])
unfolding is_end is_section is_dimension
passes_entry pass before l h e s i j d =
    let stay = nodes_header before l (sym h.end ∙ e) i (sym h.section ∙ s) in
    record {
      end = h.end ∙ sym (any_push_no is_end before l i);
      section = h.section ∙ sym (any_push_no is_section before l j);
      told = h.told ∙ sym (dimension_stays before l d);
      some_told = h.some_told ∙ sym (any_dimension_stays before l d);
      kept = rw stay h.kept;
      numbers = λ q. rw stay (h.numbers q);
    }

-- behind a node line
pub passes_node : (pass next : LinePass) (before : List Line) (l : Line) (kept : KeptNode) (n : Node) → IsPassed pass before → pass.has_end ≡ false → pass.found.has_section ≡ true
    → is_end_mark (parts_of l.text) ≡ false → node_of l ≡ Some n → KeepsNode kept n
    → next.has_end ≡ pass.has_end → next.found.has_section ≡ pass.found.has_section → next.found.dimension ≡ pass.found.dimension
    → next.found.nodes.items ≡ pass.found.nodes.items ++ kept ∷ []
    → ((q : ℕ) → contains nat_cmp next.numbers q ≡ (contains nat_cmp pass.numbers q || has_number q n))
    → IsPassed next (before ++ l ∷ [])
unfolding is_end
passes_node pass next before l kept n h e s i o k same_end same_section same_told pushed more =
    let open_end = sym h.end ∙ e in
    let in_section = sym h.section ∙ s in
    let grow : nodes (before ++ l ∷ []) ≡ nodes before ++ n ∷ [] = nodes_grow before l open_end i in_section ∙ ap (λ u. nodes before ++ cons_option u []) o in
    let same = header_closed before l open_end i (inl in_section) in
    record {
      end = same_end ∙ h.end ∙ sym (any_push_no is_end before l i);
      section = same_section ∙ s ∙ sym (any_push is_section before l ∙ ap (λ b. b || is_section l) in_section);
      told = same_told ∙ h.told ∙ sym (dimension_same before l same);
      some_told = ap is_some same_told ∙ h.some_told ∙ ap (list_any is_dimension) (sym same);
      kept = rw (pushed, grow) (all_zip_push KeepsNode pass.found.nodes.items (nodes before) kept n h.kept k);
      numbers = λ q. more q ∙ rw grow (ap (λ b. b || has_number q n) (h.numbers q) ∙ sym (any_push (has_number q) (nodes before) n));
    }

-- a DIMENSION that does not fail is the first
pub first_dimension : (has : Bool) (p : Parts) → is_end_mark p ≡ false → is_section_mark p ≡ false → is_dimension_entry p ≡ true → header_reason has p ≡ None → has ≡ false
unfolding header_reason
first_dimension true p i j d h = let g = rw (i, j, d) at h in cc
first_dimension false p i j d h = refl
