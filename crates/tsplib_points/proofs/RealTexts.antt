-- The parts of the text of a real.
use Rattle.std.proofs.Common.{◌≡◌, ℕ, ◌^◌, min, Bool, true, false, not, ◌&&◌, List, [], ◌∷◌, ◌++◌, length, ◌⊎◌, inl, inr, refl, if◌then◌else◌}
use Rattle.std.specs.List.{list_any, list_all}
use Rattle.std.proofs.lemmas.Bool.{and_right}
use Rattle.std.proofs.lemmas.List.Folds.{list_all-append}
use Rattle.tsplib_points.specs.Lines.{is_empty}
use Rattle.length_enclosure.specs.Number.{is_digit, number}
use Rattle.tsplib_points.specs.Numbers.{is_digits}
use Rattle.tsplib_points.specs.Real.{is_power, is_negative, unsigned, is_decimal, is_exponent, is_real, real_in, whole_part, fraction, mantissa, exponent}
use Rattle.tsplib_points.specs.Kept.{Holds, IsRead}
use Rattle.length_enclosure.proofs.Digits.{number_none}

-- the digits of two texts
pub are_digits_both : (a b : List ℕ) → is_digits (a ++ b) ≡ (not (is_empty a && is_empty b) && (list_all is_digit a && list_all is_digit b))
are_digits_both [] b = refl
are_digits_both (x ∷ a) b = list_all-append is_digit (x ∷ a) b

-- an exponent that is not there moves no point
pub no_right : (text : List ℕ) → text ≡ [] → 0 ≡ min (if is_negative text then 0 else number (unsigned text)) (2 ^ 40)
no_right text e = rw (e, number_none) refl

-- a real has a decimal before its exponent
pub not_decimal : (text m : List ℕ) → m ≡ mantissa text → is_decimal m ≡ false → is_real text ≡ false
unfolding is_real
not_decimal text m e h = rw (rw e at h) refl

-- and after it an exponent or none
pub not_exponent : (text u : List ℕ) (there : Bool) → there ≡ list_any is_power (unsigned text) → u ≡ exponent text → is_exponent there u ≡ false → is_real text ≡ false
unfolding is_real
not_exponent text u there t e h = rw (rw (t, e) at h) (and_right (is_decimal (mantissa text)) false refl)

-- with both it is one
pub is_one : (text m u : List ℕ) (there : Bool) → m ≡ mantissa text → there ≡ list_any is_power (unsigned text) → u ≡ exponent text
    → is_decimal m ≡ true → is_exponent there u ≡ true → is_real text ≡ true
unfolding is_real
is_one text m u there d t e h k = rw (rw d at h, rw (t, e) at k) refl

-- a sign turns the exponent one way
one_of : (b : Bool) (n : ℕ) → ((if b then 0 else n) ≡ 0) ⊎ ((if b then n else 0) ≡ 0)
one_of true n = inl refl
one_of false n = inr refl

-- what is read of the parts is read of the real
pub reads_real : (text m u : List ℕ) (negative : Bool) (head zeros places right left : ℕ) → m ≡ mantissa text → u ≡ exponent text
    → negative ≡ is_negative text → Holds head zeros (number (whole_part m ++ fraction m)) → places ≡ length (fraction m)
    → right ≡ min (if is_negative u then 0 else number (unsigned u)) (2 ^ 40)
    → left ≡ min (if is_negative u then number (unsigned u) else 0) (2 ^ 40)
    → IsRead negative head zeros places right left (real_in text)
unfolding real_in
reads_real text m u negative head tens places right left d e s h p r l = record {
  sign = s;
  digits = rw d at h;
  places_are = rw d at p;
  right_is = rw e at r;
  left_is = rw e at l;
  one_way = one_of (is_negative (exponent text)) (number (unsigned (exponent text)));
}
