-- A sign before a text: what is read of one is what is spelled with one.
use Rattle.std.proofs.Common.{◌≡◌, ◌≤◌, ℕ, zero, suc, ℤ, pos, negsuc, neg_ℤ, unsigned_abs, Bool, true, false, not, ◌&&◌, eqb, List, [], ◌∷◌, drop, refl, inl, inr, sym, ap, ◌∙◌, arith}
use Rattle.std.proofs.lemmas.Bool.{cases_Bool, and_parts, not-true, not_from_false, eqb-true, ne_eqb}
use Rattle.length_enclosure.specs.Number.{is_negative, is_signed, signed_in}

-- texts that are so are spelled in one way, up to a most
pub record IsSpelling (is : List ℕ → Bool) (value : List ℕ → ℕ) (spell : ℕ → List ℕ) (most : ℕ) : Type 0 where
  pub spelled : (t : List ℕ) → is t ≡ true → value t ≤ most → spell (value t) ≡ t
  pub again : (n : ℕ) → n ≤ most → is (spell n) ≡ true
  pub value_again : (n : ℕ) → n ≤ most → value (spell n) ≡ n
  pub plain : (t : List ℕ) → is t ≡ true → is_negative t ≡ false

-- the same with a sign
abbrev pub with_sign : (ℕ → List ℕ) → ℤ → List ℕ
with_sign spell (pos n) = spell n
with_sign spell (negsuc n) = 45 ∷ spell (suc n)

-- a text that begins with a minus is not empty
begins : (t : List ℕ) → is_negative t ≡ true → 45 ∷ drop 1 t ≡ t
begins [] h = absurd cc
begins (b ∷ bs) h = ap (λ x. x ∷ bs) (sym (eqb-true b 45 h))

negative_spelled : (spell : ℕ → List ℕ) (s : ℕ) → eqb s 0 ≡ false → (u : List ℕ) → spell s ≡ u → with_sign spell (neg_ℤ (pos s)) ≡ 45 ∷ u
negative_spelled spell zero h u e = absurd cc
negative_spelled spell (suc k) h u e = ap (λ x. 45 ∷ x) e

-- what is said of a text with a minus, and of one with none
negative_is : (is : List ℕ → Bool) (value : List ℕ → ℕ) (t : List ℕ) → is_negative t ≡ true
    → (is_signed is value t ≡ (is (drop 1 t) && not (eqb (value (drop 1 t)) 0))) × (signed_in value t ≡ neg_ℤ (pos (value (drop 1 t))))
unfolding is_signed signed_in
negative_is is value t e = (rw e refl, rw e refl)

plain_is : (is : List ℕ → Bool) (value : List ℕ → ℕ) (t : List ℕ) → is_negative t ≡ false → (is_signed is value t ≡ is t) × (signed_in value t ≡ pos (value t))
unfolding is_signed signed_in
plain_is is value t e = (rw e (and_true (is t)), rw e refl) where
  and_true : (b : Bool) → (b && true) ≡ b
  and_true true = refl
  and_true false = refl

-- the size of a negative number
abs_neg : (s : ℕ) → unsigned_abs (neg_ℤ (pos s)) ≡ s
abs_neg zero = refl
abs_neg (suc k) = refl

-- what is read with a sign is spelled so
pub signed_spelled : {is : List ℕ → Bool} {value : List ℕ → ℕ} {spell : ℕ → List ℕ} {most : ℕ} → IsSpelling is value spell most
    → (t : List ℕ) → is_signed is value t ≡ true → unsigned_abs (signed_in value t) ≤ most → with_sign spell (signed_in value t) ≡ t
signed_spelled {is = is} {value = value} {spell = spell} own t h low = elim (cases_Bool (is_negative t)) [
  | inl minus ↦
      let what = negative_is is value t minus in
      let p = and_parts _ _ (sym what.0 ∙ h) in
      let small = rw (what.1, abs_neg (value (drop 1 t))) at low in
      ap (with_sign spell) what.1 ∙ negative_spelled spell _ (not-true _ p.1) _ (own.spelled (drop 1 t) p.0 small) ∙ begins t minus
  | inr plain ↦
      let what = plain_is is value t plain in
      ap (with_sign spell) what.1 ∙ own.spelled t (sym what.0 ∙ h) (rw what.1 at low)
]

-- what is spelled with a sign is read so
pub signed_again : {is : List ℕ → Bool} {value : List ℕ → ℕ} {spell : ℕ → List ℕ} {most : ℕ} → IsSpelling is value spell most
    → (n : ℤ) → unsigned_abs n ≤ most → (is_signed is value (with_sign spell n) ≡ true) × (signed_in value (with_sign spell n) ≡ n)
signed_again {is = is} {value = value} {spell = spell} own (pos n) low =
    let what = plain_is is value (spell n) (own.plain (spell n) (own.again n low)) in
    (what.0 ∙ own.again n low, what.1 ∙ ap pos (own.value_again n low))
signed_again {is = is} {value = value} {spell = spell} own (negsuc n) low =
    let what = negative_is is value (45 ∷ spell (suc n)) refl in (
      what.0 ∙ rw (own.again (suc n) low, own.value_again (suc n) low) (not_from_false _ (ne_eqb (suc n) 0 (λ e. omega arith))),
      what.1 ∙ ap (λ s. neg_ℤ (pos s)) (own.value_again (suc n) low),
    )
