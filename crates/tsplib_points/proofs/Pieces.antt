-- How a text is cut into lines and words.
use Rattle.std.proofs.Common.{◌≡◌, ℕ, suc, ◌+◌, ◌<◌, ◌≤◌, Bool, true, false, not, is_some, cond, eqb, List, [], ◌∷◌, length, take, drop, map, filter, inl, inr, refl, sym, ap, ◌∙◌, arith}
use Rattle.std.specs.List.{slice_split, list_any, position, position_or_len, prefix_len, before_first, after_first}
use Rattle.std.proofs.Math.Seq.{take-length}
use Rattle.std.proofs.Math.ListN.{drop_of_length-le}
use Rattle.std.proofs.lemmas.Bool.{cases_Bool, cases_lt, lt-ltb, le-ltb, eqb-true, false≢true}
use Rattle.std.proofs.lemmas.List.Sums.{prefix_len-le-length, fails_before_first}
use Rattle.std.proofs.lemmas.List.Splits.{slice_split_first, slice_split_none, length-slice_split, slice_split-cons_yes}
use Rattle.tsplib_points.specs.Lines.{is_line_feed, is_blank, texts, without_return, without_empty_last, is_empty, trim_front, words}

-- a text with no place to cut
pub record IsWhole (p : ℕ → Bool) (xs : List ℕ) : Type 0 where
  pub one : slice_split p xs ≡ xs ∷ []
  pub before : before_first p xs ≡ xs
  pub after : after_first p xs ≡ []

-- where no element passes, there is one piece
pub whole : (p : ℕ → Bool) (xs : List ℕ) → length xs ≤ position_or_len p xs → IsWhole p xs
whole p xs h =
    let all : position_or_len p xs ≡ length xs = omega (arith, prefix_len-le-length (λ x. not (p x)) xs) in
    record {
      one = slice_split_none p xs (λ k d i. fails_before_first p xs k d (omega arith));
      before = rw all (take-length xs);
      after = drop_of_length-le xs (omega arith);
    }

-- an element that passes stands before the end
pub some_any : (p : ℕ → Bool) (xs : List ℕ) → position_or_len p xs < length xs → list_any p xs ≡ true
some_any p [] h = absurd (omega arith)
some_any p (x ∷ xs) h = elim (cases_Bool (p x)) [
  | inl e ↦ rw e refl
  | inr e ↦ let g : position_or_len p xs < length xs = omega (arith, rw e at h) in rw e (some_any p xs g)
]

-- none passes where the end is reached
pub none_any : (p : ℕ → Bool) (xs : List ℕ) → length xs ≤ position_or_len p xs → list_any p xs ≡ false
none_any p [] h = refl
none_any p (x ∷ xs) h = elim (cases_Bool (p x)) [
  | inl e ↦ absurd (omega (arith, rw e at h))
  | inr e ↦ let g : length xs ≤ position_or_len p xs = omega (arith, rw e at h) in rw e (none_any p xs g)
]

-- some place is found exactly where an element passes
pub is_some-position : (p : ℕ → Bool) (xs : List ℕ) → is_some (position p xs) ≡ list_any p xs
is_some-position p xs = elim (cases_lt (position_or_len p xs) (length xs)) [
  | inl i ↦ rw (lt-ltb _ _ i, some_any p xs i) refl
  | inr i ↦ rw (le-ltb _ _ i, none_any p xs i) refl
]

-- nothing stands after where no element passes
pub none_behind : (p : ℕ → Bool) (xs : List ℕ) → is_some (position p xs) ≡ false → after_first p xs ≡ []
none_behind p xs none = elim (cases_lt (position_or_len p xs) (length xs)) [
  | inl i ↦ absurd (false≢true (sym none ∙ is_some-position p xs ∙ some_any p xs i))
  | inr i ↦ let w = whole p xs i in w.after
]

-- a piece that is not the last one stays
keeps_first : (a : List ℕ) (qs : List (List ℕ)) → 0 < length qs → without_empty_last (a ∷ qs) ≡ a ∷ without_empty_last qs
keeps_first a [] h = absurd (omega arith)
keeps_first a (q ∷ qs) h = refl

-- a last piece that is not empty stays
one_left : (a : List ℕ) → 0 < length a → without_empty_last (a ∷ []) ≡ a ∷ []
one_left (x ∷ a) h = refl
one_left [] h = absurd (omega arith)

-- the test of a length, as the test of a text
pub nothing : (bs : List ℕ) → eqb (length bs) 0 ≡ true → is_empty bs ≡ true
nothing [] h = refl
nothing (b ∷ bs) h = absurd (omega (arith, eqb-true (length (b ∷ bs)) 0 h))

-- the same where the length is not 0
pub something : (bs : List ℕ) → eqb (length bs) 0 ≡ false → is_empty bs ≡ false
something [] h = absurd (false≢true (sym h))
something (b ∷ bs) h = refl

-- nothing has no lines
pub empty_texts : (bs : List ℕ) → is_empty bs ≡ true → texts bs ≡ []
unfolding texts
empty_texts [] h = refl
empty_texts (b ∷ bs) h = absurd (false≢true h)

-- the first line ends at the first LF, and the others stand after it
pub texts_next : (bs : List ℕ) → 0 < length bs → texts bs ≡ without_return (before_first is_line_feed bs) ∷ texts (after_first is_line_feed bs)
unfolding texts
texts_next bs h = elim (cases_lt (position_or_len is_line_feed bs) (length bs)) [
  | inl i ↦ let more : 0 < length (slice_split is_line_feed (after_first is_line_feed bs)) = omega (arith, length-slice_split is_line_feed (after_first is_line_feed bs)) in
      ap (λ q. map without_return (without_empty_last q)) (slice_split_first is_line_feed bs 0 i)
      ∙ ap (map without_return) (keeps_first (before_first is_line_feed bs) _ more)
  | inr i ↦ let w = whole is_line_feed bs i in
      rw (w.before, w.after) (ap (λ q. map without_return (without_empty_last q)) w.one ∙ ap (map without_return) (one_left bs h))
]

-- the two ways to say one more
pub one_suc : (n : ℕ) → 1 + n ≡ suc n
one_suc n = omega arith

-- a byte that is no blank begins a word
word_first : (b : ℕ) (bs : List ℕ) → is_blank b ≡ false → before_first is_blank (b ∷ bs) ≡ b ∷ before_first is_blank bs
word_first b bs e = rw e (ap (λ k. take k (b ∷ bs)) (one_suc (position_or_len is_blank bs)))

-- the words of a text are those after the blanks at its front
pub words_trim : (t : List ℕ) → words t ≡ words (trim_front t)
unfolding words trim_front
words_trim [] = refl
words_trim (b ∷ bs) = elim (cases_Bool (is_blank b)) [
  | inl e ↦ rw (slice_split-cons_yes is_blank b bs e, e) (words_trim bs ∙ ap (λ k. words (drop k (b ∷ bs))) (sym (one_suc (prefix_len is_blank bs))))
  | inr e ↦ ap (λ t. words (drop (cond t (1 + prefix_len is_blank bs) 0) (b ∷ bs))) (sym e)
]

-- nothing has no words
pub words_none : words [] ≡ []
unfolding words
words_none = refl

-- a text that begins with no blank
pub words_next : (b : ℕ) (bs : List ℕ) → is_blank b ≡ false → words (b ∷ bs) ≡ before_first is_blank (b ∷ bs) ∷ words (after_first is_blank (b ∷ bs))
unfolding words
words_next b bs e = elim (cases_lt (position_or_len is_blank (b ∷ bs)) (length (b ∷ bs))) [
  | inl i ↦ ap (filter (λ w. not (is_empty w))) (slice_split_first is_blank (b ∷ bs) 0 i) ∙ rw (ap is_empty (word_first b bs e)) refl
  | inr i ↦ let w = whole is_blank (b ∷ bs) i in
      rw (w.before, w.after) (ap (filter (λ w. not (is_empty w))) w.one)
]

-- a text after its blanks is empty or begins with none
pub trimmed : (t : List ℕ) (b : ℕ) (bs : List ℕ) → trim_front t ≡ b ∷ bs → is_blank b ≡ false
unfolding trim_front
trimmed [] b bs h = absurd (cc)
trimmed (x ∷ xs) b bs h = elim (cases_Bool (is_blank x)) [
  | inl e ↦ trimmed xs b bs (ap (λ k. drop k (x ∷ xs)) (sym (one_suc (prefix_len is_blank xs))) ∙ ap (λ t. drop (cond t (1 + prefix_len is_blank xs) 0) (x ∷ xs)) (sym e) ∙ h)
  | inr e ↦ let g : x ∷ xs ≡ b ∷ bs = ap (λ t. drop (cond t (1 + prefix_len is_blank xs) 0) (x ∷ xs)) (sym e) ∙ h in
      let same : x ≡ b = cc in rw same at e
]

-- the words of a text after the blanks at its front
pub words_after : (t : List ℕ) → words (trim_front t) ≡ cond (is_empty (trim_front t)) [] (before_first is_blank (trim_front t) ∷ words (after_first is_blank (trim_front t)))
words_after t = go (trim_front t) refl where
  go : (u : List ℕ) → trim_front t ≡ u → words u ≡ cond (is_empty u) [] (before_first is_blank u ∷ words (after_first is_blank u))
  go [] h = words_none
  go (b ∷ bs) h = words_next b bs (trimmed t b bs h)
