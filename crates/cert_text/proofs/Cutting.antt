-- How a text is cut at a byte.
use Rattle.std.proofs.Common.{◌≡◌, ℕ, suc, ◌+◌, ◌<◌, ◌≤◌, Bool, true, false, not, ltb, List, [], ◌∷◌, ◌++◌, length, take, drop, Option, Some, None, Err, inl, inr, refl, sym, ap, ◌∙◌, arith}
use Rattle.std.specs.List.{list_all, position_or_len, onto_first, join_with_byte}
use Rattle.std.proofs.lemmas.Bool.{cases_Bool, and_parts, and_from, not-true, not_from_false, lt-ltb, le-ltb, eqb-true, eq-eqb, ne_eqb, cases_lt, ltb-true}
use Rattle.std.proofs.lemmas.List.Splits.{slice_split-cons_yes, slice_split-cons_no, join_with_byte-slice_split}
use Rattle.cert_text.specs.declared.found.Flaw.TheVariants.{NotSpelled}
use Rattle.cert_text.specs.Cuts.{is_byte, cut, fields, one}

-- a text is cut as its rest is, after a byte that is another
abbrev pub put_before : ℕ → Option (List ℕ × List ℕ) → Option (List ℕ × List ℕ)
put_before b None = None
put_before b (Some p) = Some (b ∷ p.0, p.1)

cut_by : (c : ℕ) (t : List ℕ) (n : ℕ) → position_or_len (is_byte c) t ≡ n → n < length t → cut c t ≡ Some (take n t, drop (n + 1) t)
unfolding cut
cut_by c t n e h = rw (e, lt-ltb n (length t) h) refl

cut_not : (c : ℕ) (t : List ℕ) (n : ℕ) → position_or_len (is_byte c) t ≡ n → length t ≤ n → cut c t ≡ None
unfolding cut
cut_not c t n e h = rw (e, le-ltb n (length t) h) refl

pub cut_none : (c : ℕ) → cut c [] ≡ None
cut_none c = cut_not c [] 0 refl (omega arith)

pub cut_here : (c : ℕ) (bs : List ℕ) → cut c (c ∷ bs) ≡ Some ([], bs)
cut_here c bs = cut_by c (c ∷ bs) 0 (rw (eq-eqb c c refl) refl) (omega arith)

pub cut_behind : (c b : ℕ) (bs : List ℕ) → is_byte c b ≡ false → cut c (b ∷ bs) ≡ put_before b (cut c bs)
cut_behind c b bs e =
    let n = position_or_len (is_byte c) bs in
    let one : 1 + n ≡ suc n = omega arith in
    let at : position_or_len (is_byte c) (b ∷ bs) ≡ suc n = rw e one in
    let next : suc n + 1 ≡ suc (n + 1) = omega arith in
    elim (cases_lt n (length bs)) [
      | inl h ↦ cut_by c (b ∷ bs) (suc n) at (omega arith) ∙ ap (λ k. Some (b ∷ take n bs, drop k (b ∷ bs))) next ∙ ap (put_before b) (sym (cut_by c bs n refl h))
      | inr h ↦ cut_not c (b ∷ bs) (suc n) at (omega arith) ∙ ap (put_before b) (sym (cut_not c bs n refl h))
    ]

put_ok : (b : ℕ) (o : Option (List ℕ × List ℕ)) (p : List ℕ × List ℕ) → put_before b o ≡ Some p → (q : List ℕ × List ℕ) × (o ≡ Some q) × ((b ∷ q.0, q.1) ≡ p)
put_ok b None p e = absurd cc
put_ok b (Some q) p e = (q, refl, cc)

-- what was cut stands on the two sides of the byte
pub cut_takes : (c : ℕ) (t : List ℕ) (p : List ℕ × List ℕ) → cut c t ≡ Some p → t ≡ p.0 ++ c ∷ p.1
cut_takes c [] p e = absurd (let none = cut_none c in cc)
cut_takes c (b ∷ bs) p e = elim (cases_Bool (is_byte c b)) [
  | inl here ↦
      let same = eqb-true b c here in
      let found : cut c (b ∷ bs) ≡ Some ([], bs) = rw same (cut_here c bs) in
      let is : ([], bs) ≡ p = cc in
      rw same (ap (λ (q : List ℕ × List ℕ). q.0 ++ c ∷ q.1) is)
  | inr other ↦
      let q = put_ok b (cut c bs) p (sym (cut_behind c b bs other) ∙ e) in
      ap (λ (x : List ℕ). b ∷ x) (cut_takes c bs q.0 q.1) ∙ ap (λ (x : List ℕ × List ℕ). x.0 ++ c ∷ x.1) q.2
]

-- the byte is not in a text
abbrev pub is_free : ℕ → List ℕ → Bool
is_free c t = list_all (λ b. not (is_byte c b)) t

-- what stands before the byte and after it is cut so
pub cut_again : (c : ℕ) (t r : List ℕ) → is_free c t ≡ true → cut c (t ++ c ∷ r) ≡ Some (t, r)
cut_again c [] r h = cut_here c r
cut_again c (b ∷ bs) r h =
    let p = and_parts _ _ h in
    cut_behind c b (bs ++ c ∷ r) (not-true _ p.0) ∙ ap (put_before b) (cut_again c bs r p.1)

-- a text without the byte is not cut
pub cut_free : (c : ℕ) (t : List ℕ) → is_free c t ≡ true → cut c t ≡ None
cut_free c [] h = cut_none c
cut_free c (b ∷ bs) h =
    let p = and_parts _ _ h in
    cut_behind c b bs (not-true _ p.0) ∙ ap (put_before b) (cut_free c bs p.1)

-- the fields of a text, by its first cut
abbrev pub fields_by : List ℕ → Option (List ℕ × List ℕ) → List (List ℕ)
fields_by t None = t ∷ []
fields_by t (Some p) = p.0 ∷ fields p.1

pub fields_cut : (t : List ℕ) → fields t ≡ fields_by t (cut 32 t)
unfolding fields
fields_cut [] = sym (ap (fields_by []) (cut_none 32))
fields_cut (b ∷ bs) = elim (cases_Bool (is_byte 32 b)) [
  | inl here ↦
      let same = eqb-true b 32 here in
      let found : cut 32 (b ∷ bs) ≡ Some ([], bs) = rw same (cut_here 32 bs) in
      slice_split-cons_yes (is_byte 32) b bs here ∙ sym (ap (fields_by (b ∷ bs)) found)
  | inr other ↦
      slice_split-cons_no (is_byte 32) b bs other ∙ ap (onto_first b) (fields_cut bs) ∙ behind (cut 32 bs) ∙ sym (ap (fields_by (b ∷ bs)) (cut_behind 32 b bs other))
] where
  behind : (o : Option (List ℕ × List ℕ)) → onto_first b (fields_by bs o) ≡ fields_by (b ∷ bs) (put_before b o)
  behind None = refl
  behind (Some p) = refl

-- after a first field there is another
pub one_more : (f t : List ℕ) → one (f ∷ fields t) ≡ Err NotSpelled
one_more f t = rw (fields_cut t) (go (cut 32 t)) where
  go : (o : Option (List ℕ × List ℕ)) → one (f ∷ fields_by t o) ≡ Err NotSpelled
  go None = refl
  go (Some p) = refl

-- the fields of a text, with a space between each two, are the text
pub fields_joined : (t : List ℕ) → join_with_byte 32 (fields t) ≡ t
unfolding fields
fields_joined t = join_with_byte-slice_split 32 t

-- each byte stands above a space
abbrev pub is_plain : List ℕ → Bool
is_plain t = list_all (ltb 32) t

pub plain_free : (c : ℕ) (t : List ℕ) → c ≤ 32 → is_plain t ≡ true → is_free c t ≡ true
plain_free c [] low h = refl
plain_free c (b ∷ bs) low h =
    let p = and_parts _ _ h in
    let above = ltb-true 32 b p.0 in
    and_from _ _ (not_from_false _ (ne_eqb b c (λ e. omega arith))) (plain_free c bs low p.1)

-- fields with a space between each two are the fields of the text that they make
pub fields_again : (f : List ℕ) (fs : List (List ℕ)) → list_all is_plain (f ∷ fs) ≡ true → fields (join_with_byte 32 (f ∷ fs)) ≡ f ∷ fs
fields_again f [] h = fields_cut f ∙ ap (fields_by f) (cut_free 32 f (plain_free 32 f (omega arith) (and_parts _ _ h).0))
fields_again f (g ∷ gs) h =
    let p = and_parts _ _ h in
    let all = join_with_byte 32 (f ∷ g ∷ gs) in
    fields_cut all ∙ ap (fields_by all) (cut_again 32 f (join_with_byte 32 (g ∷ gs)) (plain_free 32 f (omega arith) p.0)) ∙ ap (λ (x : List (List ℕ)). f ∷ x) (fields_again g gs p.1)

free_append : (c : ℕ) (s t : List ℕ) → is_free c s ≡ true → is_free c t ≡ true → is_free c (s ++ t) ≡ true
free_append c [] t hs ht = ht
free_append c (b ∷ bs) t hs ht = let p = and_parts _ _ hs in and_from _ _ p.0 (free_append c bs t p.1 ht)

-- a line of plain fields has no LF
pub line_free : (fs : List (List ℕ)) → list_all is_plain fs ≡ true → is_free 10 (join_with_byte 32 fs) ≡ true
line_free [] h = refl
line_free (f ∷ []) h = plain_free 10 f (omega arith) (and_parts _ _ h).0
line_free (f ∷ g ∷ gs) h =
    let p = and_parts _ _ h in
    free_append 10 f (32 ∷ join_with_byte 32 (g ∷ gs)) (plain_free 10 f (omega arith) p.0) (line_free (g ∷ gs) p.1)
