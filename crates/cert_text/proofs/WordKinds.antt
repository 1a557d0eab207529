-- The kinds of lines that begin with a word.
use Rattle.std.proofs.Common.{◌≡◌, ◌⊎◌, ◌==◌, ◌&&◌, ℕ, ℤ, pos, ◌≤◌, ◌^◌, true, cond, List, [], ◌∷◌, Ok, Err, unsigned_abs, inl, inr, refl, ap, subst, ◌∙◌, arith, decimal, codes, bytes_eq}
use Rattle.std.proofs.lemmas.Bool.{and_parts, and_from, eqb-true}
use Rattle.std.proofs.lemmas.Int.{ints}
use Rattle.mwt_base.specs.Limits.{most_amount, most_length}
use Rattle.exact_predicates.specs.declared.diamond.Diamond.{Diamond}
use Rattle.exact_predicates.specs.declared.diamond.Diamond.TheVariants.{On, Off}
use Rattle.length_enclosure.specs.Amount.{amount}
use Rattle.cert_text.specs.declared.found.Flaw.TheVariants.{NotSpelled}
use Rattle.cert_text.specs.declared.report.Method.{Method}
use Rattle.cert_text.specs.declared.report.Method.TheVariants.{Flips, Faces}
use Rattle.cert_text.specs.Cuts.{after}
use Rattle.cert_text.specs.Found.{◌>>=◌, Found}
use Rattle.cert_text.specs.Lines.{count_in, diamond_of, diamond_in, method_of, method_in, length_end_in, length_in, amount_line_in, end_in}
use Rattle.cert_text.specs.Texts.{diamond_word, method_word}
use Rattle.cert_text.specs.Within.{IsFrom, IsUpto}
use Rattle.cert_text.proofs.Cutting.{is_plain}
use Rattle.cert_text.proofs.FieldTexts.{number_takes, number_found, number_plain, amount_takes, amount_found, amount_plain, between_size}
use Rattle.cert_text.proofs.LineKinds.{IsKind, ◌∷≡◌, both_ok, bind_ok, chosen, tested, word_is, word_same}
use Rattle.cert_text.proofs.Shapes.{value_is}

-- a field that says the values that are In, each spelled in one way
pub record IsField {X : Type 0} (says : List ℕ → Found X) (spell : X → List ℕ) (In : X → Type 0) : Type 0 where
  pub takes : (t : List ℕ) (x : X) → says t ≡ Ok x → (t ≡ spell x) × In x
  pub found : (x : X) → In x → says (spell x) ≡ Ok x
  pub plain : (x : X) → In x → is_plain (spell x) ≡ true

word_takes : {X : Type 0} {says : List ℕ → Found X} {spell : X → List ℕ} {In : X → Type 0} → IsField says spell In
    → (word : List ℕ) (fs : List (List ℕ)) (x : X) → (after word fs >>= says) ≡ Ok x → (fs ≡ word ∷ spell x ∷ []) × In x
word_takes {says = says} k word (w ∷ t ∷ []) x e =
    let v = bind_ok _ says x e in
    let f = tested _ _ v.0 v.1 in
    let s = k.takes v.0 x v.2 in
    (word_is w word f.0 ∷≡ (value_is _ _ f.1 ∙ s.0) ∷≡ refl, s.1)
word_takes k word fs x e = absurd cc

-- a word and a field
word_kind : {X : Type 0} {says : List ℕ → Found X} {spell : X → List ℕ} {In : X → Type 0} → IsField says spell In → (word : List ℕ) → is_plain word ≡ true
    → IsKind (λ fs. after word fs >>= says) (λ x. word ∷ spell x ∷ []) In
word_kind k word plain = record {
  takes = word_takes k word;
  found = λ x h. rw (word_same word, k.found x h) refl;
  plain = λ x h. and_from _ _ plain (and_from _ _ (k.plain x h) refl);
  some = λ x. omega arith;
}

-- a word and a number
pub count_kind : (word : List ℕ) (low end : ℕ) → is_plain word ≡ true → end ≤ 2 ^ 32 → IsKind (count_in word low end) (λ n. word ∷ decimal n ∷ []) (IsFrom low end)
unfolding count_in
count_kind word low end plain few = word_kind (record {
  takes = λ t n e. number_takes low end t n few e;
  found = λ n h. number_found low end n few h;
  plain = λ n h. let m = h.most in number_plain n (omega arith);
}) word plain

-- whether the diamond test is made
abbrev pub Any : {X : Type 0} → X → Type 0
Any x = Unit {0}

diamond_takes : (t : List ℕ) (d : Diamond) → diamond_of t ≡ Ok d → (t ≡ diamond_word d) × Any d
diamond_takes t d e =
    let on : Found Diamond = Ok On in
    let off : Found Diamond = Ok Off in
    let test = bytes_eq t (codes "off") in
    elim (chosen (bytes_eq t (codes "on")) on (cond test off (Err NotSpelled)) (Ok d) e) [
      | inl h ↦ subst (λ (x : Diamond). (t ≡ diamond_word x) × Any x) (value_is On d h.1) (word_is t (codes "on") h.0, tt)
      | inr other ↦
          let last = tested test off d other.1 in
          subst (λ (x : Diamond). (t ≡ diamond_word x) × Any x) (value_is Off d last.1) (word_is t (codes "off") last.0, tt)
    ]

diamond_found : (d : Diamond) → Any d → diamond_of (diamond_word d) ≡ Ok d
diamond_found On h = refl
diamond_found Off h = refl

diamond_plain : (d : Diamond) → Any d → is_plain (diamond_word d) ≡ true
diamond_plain On h = refl
diamond_plain Off h = refl

pub diamond_kind : IsKind diamond_in (λ d. codes "diamond" ∷ diamond_word d ∷ []) Any
unfolding diamond_in
diamond_kind = word_kind (record { takes = diamond_takes; found = diamond_found; plain = diamond_plain }) (codes "diamond") refl

-- how the triangulation was found
pub record HasMethod (version : ℕ) (m : Method) : Type 0 where
  pub is : (m ≡ Flips) ⊎ (version ≡ 2)

method_takes : (version : ℕ) (t : List ℕ) (m : Method) → method_of version t ≡ Ok m → (t ≡ method_word m) × HasMethod version m
method_takes version t m e =
    let flips : Found Method = Ok Flips in
    let faces : Found Method = Ok Faces in
    let test = (version == 2) && bytes_eq t (codes "faces") in
    elim (chosen (bytes_eq t (codes "flips")) flips (cond test faces (Err NotSpelled)) (Ok m) e) [
      | inl h ↦ subst (λ (x : Method). (t ≡ method_word x) × HasMethod version x) (value_is Flips m h.1) (word_is t (codes "flips") h.0, record { is = inl refl })
      | inr other ↦
          let last = tested test faces m other.1 in
          let p = and_parts (version == 2) (bytes_eq t (codes "faces")) last.0 in
          subst (λ (x : Method). (t ≡ method_word x) × HasMethod version x) (value_is Faces m last.1)
          (word_is t (codes "faces") p.1, record { is = inr (eqb-true version 2 p.0) })
    ]

method_found : (version : ℕ) (m : Method) → HasMethod version m → method_of version (method_word m) ≡ Ok m
method_found version Flips h = refl
method_found version Faces h = elim h.is [ inl e ↦ absurd cc | inr two ↦ rw two refl ]

method_plain : (version : ℕ) (m : Method) → HasMethod version m → is_plain (method_word m) ≡ true
method_plain version Flips h = refl
method_plain version Faces h = refl

pub method_kind : (version : ℕ) → IsKind (method_in version) (λ m. codes "method" ∷ method_word m ∷ []) (HasMethod version)
unfolding method_in
method_kind version = word_kind (record { takes = method_takes version; found = method_found version; plain = method_plain version }) (codes "method") refl

-- the two ends of an enclosure
pub record AreEnds (ends : ℕ × ℕ) : Type 0 where
  pub lo : ends.0 ≤ most_length
  pub hi : ends.1 ≤ most_length

abbrev pub ends_fields : ℕ × ℕ → List (List ℕ)
ends_fields ends = codes "length" ∷ amount (pos ends.0) ∷ amount (pos ends.1) ∷ []

end_takes : (t : List ℕ) (n : ℤ) → length_end_in t ≡ Ok n → (t ≡ amount (pos (unsigned_abs n))) × (unsigned_abs n ≤ most_length)
end_takes t n e =
    let k = amount_takes _ _ t n e in
    let l = k.1.least in
    let m = k.1.most in
    let is : n ≡ pos (unsigned_abs n) = omega (arith, ints) in
    (k.0 ∙ ap amount is, omega (arith, ints))

end_found : (n : ℕ) → n ≤ most_length → length_end_in (amount (pos n)) ≡ Ok (pos n)
end_found n h = amount_found _ _ (pos n) (omega arith) (record { least = omega (arith, ints); most = omega (arith, ints) })

length_takes : (fs : List (List ℕ)) (ends : ℕ × ℕ) → length_in fs ≡ Ok ends → (fs ≡ ends_fields ends) × AreEnds ends
unfolding length_in
length_takes (w ∷ lo ∷ hi ∷ []) ends e =
    let k = tested _ _ ends e in
    let v = bind_ok _ _ ends k.1 in
    let p = both_ok _ _ v.0 v.1 in
    let a = end_takes lo v.0.0 p.0 in
    let b = end_takes hi v.0.1 p.1 in
    subst (λ (x : ℕ × ℕ). (w ∷ lo ∷ hi ∷ [] ≡ ends_fields x) × AreEnds x) (value_is _ ends v.2)
    (word_is w (codes "length") k.0 ∷≡ a.0 ∷≡ b.0 ∷≡ refl, record { lo = a.1; hi = b.1 })
length_takes fs ends e = absurd cc

length_found : (ends : ℕ × ℕ) → AreEnds ends → length_in (ends_fields ends) ≡ Ok ends
unfolding length_in
length_found ends h = rw (end_found ends.0 h.lo, end_found ends.1 h.hi) refl

pub length_kind : IsKind length_in ends_fields AreEnds
length_kind = record {
  takes = length_takes;
  found = length_found;
  plain = λ ends h.
      let l = h.lo in
      let m = h.hi in
      and_from _ _ refl (and_from _ _ (amount_plain (pos ends.0) (omega arith)) (and_from _ _ (amount_plain (pos ends.1) (omega arith)) refl));
  some = λ ends. omega arith;
}

-- a word and an amount
pub amount_kind : (word : List ℕ) (most : ℕ) → is_plain word ≡ true → most ≤ most_amount → IsKind (amount_line_in word most) (λ n. word ∷ amount n ∷ []) (IsUpto most)
unfolding amount_line_in
amount_kind word most plain few = word_kind (record {
  takes = λ t n e. amount_takes _ _ t n e;
  found = λ n h. let small = between_size most n h in amount_found _ _ n (omega arith) h;
  plain = λ n h. let small = between_size most n h in amount_plain n (omega arith);
}) word plain

-- the last line
last_takes : (fs : List (List ℕ)) (u : Unit {0}) → end_in fs ≡ Ok u → (fs ≡ codes "end" ∷ []) × Any u
unfolding end_in
last_takes (w ∷ []) u e =
    let k = tested _ _ u e in
    (word_is w (codes "end") k.0 ∷≡ refl, tt)
last_takes fs u e = absurd cc

pub end_kind : IsKind end_in (λ u. codes "end" ∷ []) Any
unfolding end_in
end_kind = record { takes = last_takes; found = λ u h. refl; plain = λ u h. refl; some = λ u. omega arith }
