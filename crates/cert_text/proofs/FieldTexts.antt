-- What a field says that is a number or an amount: what is read is spelled so, and what is spelled so is read.
use Rattle.std.proofs.Common.{◌≡◌, ℕ, suc, ℤ, pos, negsuc, ◌/◌, ◌%◌, ◌^◌, ◌<◌, ◌≤◌, ◌≤ℤ◌, Bool, true, false, not, cond, ltb, leb, List, [], ◌∷◌, ◌++◌, Ok, Err, unsigned_abs, refl, sym, subst, ◌∙◌, arith, decimal}
use Rattle.std.specs.Fmt.{signed_decimal}
use Rattle.std.specs.List.{list_all}
use Rattle.std.specs.Prelude.{int_le}
use Rattle.std.proofs.lemmas.Bool.{and_parts, and_from, ltb-true, lt-ltb, leb-true, le-leb}
use Rattle.std.proofs.lemmas.Int.{ints}
use Rattle.mwt_base.specs.Limits.{most_amount, most_coordinate}
use Rattle.length_enclosure.specs.declared.units.Units.{Units}
use Rattle.length_enclosure.specs.declared.units.Units.TheVariants as units
use Rattle.length_enclosure.specs.Number.{is_digit, is_number, number, is_signed, signed_in}
use Rattle.length_enclosure.specs.Amount.{amount, amount_size, six_digits}
use Rattle.length_enclosure.specs.Units.{units_in}
use Rattle.length_enclosure.proofs.Digits.{number_spelled, number_again, is_number_again, digits_again, digit_low, number_spelling}
use Rattle.length_enclosure.proofs.Signs.{with_sign, signed_spelled, signed_again}
use Rattle.length_enclosure.proofs.Amounts.{amount_size_is, six_digits_are}
use Rattle.length_enclosure.proofs.UnitTexts.{units_value}
use Rattle.cert_text.specs.declared.found.Flaw.TheVariants.{NotSpelled}
use Rattle.cert_text.specs.Found.{Found}
use Rattle.cert_text.specs.Numbers.{kept_if, number_in, coordinate_in, ranged, amount_within}
use Rattle.cert_text.specs.Within.{IsFrom, IsBetween, IsUpto}
use Rattle.cert_text.proofs.Cutting.{is_plain}
use Rattle.cert_text.proofs.Shapes.{value_is}

-- a value that is kept fits
kept_ok : {A : Type 0} (b : Bool) (x y : A) → kept_if b x ≡ Ok y → (b ≡ true) × (x ≡ y)
kept_ok true x y e = (refl, value_is x y e)
kept_ok false x y e = absurd cc

-- a value that is found is spelled
spelled_ok : {A : Type 0} (b : Bool) (f : Found A) (y : A) → cond (not b) (Err NotSpelled) f ≡ Ok y → (b ≡ true) × (f ≡ Ok y)
spelled_ok true f y e = (refl, e)
spelled_ok false f y e = absurd cc

pub number_takes : (low end : ℕ) (t : List ℕ) (n : ℕ) → end ≤ 2 ^ 32 → number_in low end t ≡ Ok n → (t ≡ decimal n) × IsFrom low end n
unfolding number_in
number_takes low end t n few e =
    let s = spelled_ok (is_number t) _ n e in
    let k = kept_ok _ _ n s.1 in
    let p = and_parts (leb low (number t)) (ltb (number t) end) k.0 in
    let least = leb-true _ _ p.0 in
    let most = ltb-true _ _ p.1 in
    subst (λ (m : ℕ). (t ≡ decimal m) × IsFrom low end m) k.1
    (sym (number_spelled t s.0 (omega arith)), record { least = least; most = most })

pub number_found : (low end n : ℕ) → end ≤ 2 ^ 32 → IsFrom low end n → number_in low end (decimal n) ≡ Ok n
unfolding number_in
number_found low end n few h =
    let small : n < 2 ^ 64 = omega (arith, h.most) in
    rw (is_number_again n small, number_again n small, le-leb low n h.least, lt-ltb n end h.most) refl

decimal_is : (n : ℤ) → signed_decimal n ≡ with_sign decimal n
decimal_is (pos n) = refl
decimal_is (negsuc n) = refl

size_between : (m : ℕ) (n : ℤ) → unsigned_abs n ≤ m → IsUpto m n
size_between m n h = record { least = omega (arith, ints); most = omega (arith, ints) }

pub between_size : (m : ℕ) (n : ℤ) → IsUpto m n → unsigned_abs n ≤ m
between_size m n h = let l = h.least in let r = h.most in omega (arith, ints)

pub coordinate_takes : (t : List ℕ) (n : ℤ) → coordinate_in t ≡ Ok n → (t ≡ signed_decimal n) × IsUpto most_coordinate n
unfolding coordinate_in
coordinate_takes t n e =
    let s = spelled_ok (is_signed is_number number t) _ n e in
    let k = kept_ok _ _ n s.1 in
    let small = leb-true _ _ k.0 in
    subst (λ (m : ℤ). (t ≡ signed_decimal m) × IsUpto most_coordinate m) k.1
    (sym (decimal_is (signed_in number t) ∙ signed_spelled number_spelling t s.0 (omega arith)), size_between most_coordinate _ small)

pub coordinate_found : (n : ℤ) → IsUpto most_coordinate n → coordinate_in (signed_decimal n) ≡ Ok n
unfolding coordinate_in
coordinate_found n h =
    let small = between_size most_coordinate n h in
    let again = signed_again number_spelling n (omega arith) in
    rw (decimal_is n, again.0, again.1, le-leb _ _ small) refl

int_le_true : (a b : ℤ) → int_le a b ≡ true → a ≤ℤ b
int_le_true a b e = grind (arith, ints)

int_le_from : (a b : ℤ) → a ≤ℤ b → int_le a b ≡ true
int_le_from a b h = grind (arith, ints)

ranged_ok : (low high : ℤ) (u : Units) (n : ℤ) → ranged low high u ≡ Ok n → (u ≡ units.Value n) × IsBetween low high n
ranged_ok low high units.NoAmount n e = absurd cc
ranged_ok low high units.Outside n e = absurd cc
ranged_ok low high (units.Value m) n e =
    let k = kept_ok _ m n e in
    let p = and_parts (int_le low m) (int_le m high) k.0 in
    subst (λ (z : ℤ). (units.Value m ≡ units.Value z) × IsBetween low high z) k.1
    (refl, record { least = int_le_true low m p.0; most = int_le_true m high p.1 })

pub amount_takes : (low high : ℤ) (t : List ℕ) (n : ℤ) → amount_within low high t ≡ Ok n → (t ≡ amount n) × IsBetween low high n
unfolding amount_within
amount_takes low high t n e =
    let r = ranged_ok low high (units_in t) n e in
    let both = units_value t n in
    ((both.0 r.0).1, r.1)

pub amount_found : (low high n : ℤ) → unsigned_abs n ≤ most_amount → IsBetween low high n → amount_within low high (amount n) ≡ Ok n
unfolding amount_within
amount_found low high n small h =
    let both = units_value (amount n) n in
    rw (both.1 (small, refl), int_le_from low n h.least, int_le_from n high h.most) refl

-- digits stand above a space
digits_plain : (t : List ℕ) → list_all is_digit t ≡ true → is_plain t ≡ true
digits_plain [] h = refl
digits_plain (b ∷ bs) h =
    let p = and_parts _ _ h in
    let low = digit_low b p.0 in
    and_from _ _ (lt-ltb 32 b (omega arith)) (digits_plain bs p.1)

pub plain_append : (s t : List ℕ) → is_plain s ≡ true → is_plain t ≡ true → is_plain (s ++ t) ≡ true
plain_append [] t hs ht = ht
plain_append (b ∷ bs) t hs ht = let p = and_parts _ _ hs in and_from _ _ p.0 (plain_append bs t p.1 ht)

pub number_plain : (n : ℕ) → n < 2 ^ 64 → is_plain (decimal n) ≡ true
number_plain n small = digits_plain (decimal n) (digits_again n small)

pub coordinate_plain : (n : ℤ) → IsUpto most_coordinate n → is_plain (signed_decimal n) ≡ true
coordinate_plain (pos n) h = let small = between_size most_coordinate (pos n) h in number_plain n (omega arith)
coordinate_plain (negsuc n) h = let small = between_size most_coordinate (negsuc n) h in number_plain (suc n) (omega arith)

size_plain : (n : ℕ) → n ≤ most_amount → is_plain (amount_size n) ≡ true
size_plain n small =
    rw (amount_size_is n) (plain_append (decimal (n / 10 ^ 6)) (46 ∷ six_digits (n % 10 ^ 6)) (number_plain (n / 10 ^ 6) (omega arith))
    (digits_plain (six_digits (n % 10 ^ 6)) (six_digits_are (n % 10 ^ 6))))

pub amount_plain : (n : ℤ) → unsigned_abs n ≤ most_amount → is_plain (amount n) ≡ true
amount_plain (pos n) small = size_plain n small
amount_plain (negsuc n) small = size_plain (suc n) small
