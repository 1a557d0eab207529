-- Amounts that are read are those that are spelled.
use Rattle.std.proofs.Common.{◌≡◌, ℕ, ◌+◌, ◌-◌, ◌*◌, ◌/◌, ◌%◌, ◌^◌, ◌<◌, ◌≤◌, true, false, List, [], ◌∷◌, ◌++◌, length, get_or, drop, refl, append_assoc, sym, ap, ◌∙◌, arith, decimal, ℤ, pos, negsuc, unsigned_abs}
use Rattle.std.specs.List.{list_all}
use Rattle.std.proofs.lemmas.Bool.{and_parts, and_from, eqb-true}
use Rattle.std.proofs.lemmas.List.{take_at, drop_at, length-append, length-take, length-drop, take-append-drop, get_or-take}
use Rattle.mwt_base.specs.Limits.{most_amount}
use Rattle.length_enclosure.specs.Number.{is_digit, is_number, number, is_negative}
use Rattle.length_enclosure.specs.Amount.{amount, amount_size, six_digits, whole_part, last_seven, is_amount_size, size_in, is_amount, amount_in}
use Rattle.length_enclosure.proofs.Digits.{digit_low, digit_high, digit_between, number_parts, number_spelled, number_again, is_number_again, first_passes, digit_first}
use Rattle.length_enclosure.proofs.Signs.{with_sign, IsSpelling, signed_spelled, signed_again}

-- six digits spell the number of their values
six_of : (n a b c d e f : ℕ) → a < 10 → b < 10 → c < 10 → d < 10 → e < 10 → f < 10
    → n ≡ 10 * (10 * (10 * (10 * (10 * a + b) + c) + d) + e) + f
    → six_digits n ≡ (48 + a) ∷ (48 + b) ∷ (48 + c) ∷ (48 + d) ∷ (48 + e) ∷ (48 + f) ∷ []
six_of n a b c d e f la lb lc ld le lf is =
    let qa : n / 100000 % 10 ≡ a = omega arith in
    let qb : n / 10000 % 10 ≡ b = omega arith in
    let qc : n / 1000 % 10 ≡ c = omega arith in
    let qd : n / 100 % 10 ≡ d = omega arith in
    let qe : n / 10 % 10 ≡ e = omega arith in
    let qf : n % 10 ≡ f = omega arith in
    rw (qa, qb, qc, qd, qe, qf) refl

-- six digits are those of the number that they spell
pub six_spelled : (s : List ℕ) → length s ≡ 6 → list_all is_digit s ≡ true → (six_digits (number s) ≡ s) × (number s < 10 ^ 6)
unfolding number
six_spelled (a ∷ b ∷ c ∷ d ∷ e ∷ f ∷ []) len h =
    let p0 = and_parts _ _ h in
    let p1 = and_parts _ _ p0.1 in
    let p2 = and_parts _ _ p1.1 in
    let p3 = and_parts _ _ p2.1 in
    let p4 = and_parts _ _ p3.1 in
    let p5 = and_parts _ _ p4.1 in
    let la = digit_low a p0.0 in let ha = digit_high a p0.0 in
    let lb = digit_low b p1.0 in let hb = digit_high b p1.0 in
    let lc = digit_low c p2.0 in let hc = digit_high c p2.0 in
    let ld = digit_low d p3.0 in let hd = digit_high d p3.0 in
    let le = digit_low e p4.0 in let he = digit_high e p4.0 in
    let lf = digit_low f p5.0 in let hf = digit_high f p5.0 in
    let ea : 48 + (a - 48) ≡ a = omega arith in
    let eb : 48 + (b - 48) ≡ b = omega arith in
    let ec : 48 + (c - 48) ≡ c = omega arith in
    let ed : 48 + (d - 48) ≡ d = omega arith in
    let ee : 48 + (e - 48) ≡ e = omega arith in
    let ef : 48 + (f - 48) ≡ f = omega arith in (
      six_of _ (a - 48) (b - 48) (c - 48) (d - 48) (e - 48) (f - 48) (omega arith) (omega arith) (omega arith) (omega arith) (omega arith) (omega arith) (omega arith)
          ∙ cells _ _ _ _ _ _ _ _ _ _ _ _ ea eb ec ed ee ef,
      omega arith,
    ) where
      cells : (a b c d e f a' b' c' d' e' f' : ℕ) → a ≡ a' → b ≡ b' → c ≡ c' → d ≡ d' → e ≡ e' → f ≡ f'
          → a ∷ b ∷ c ∷ d ∷ e ∷ f ∷ [] ≡ a' ∷ b' ∷ c' ∷ d' ∷ e' ∷ f' ∷ []
      cells a b c d e f a' b' c' d' e' f' ea eb ec ed ee ef = cc
six_spelled s len h = absurd (omega arith)

digit_of : (n : ℕ) → is_digit (48 + n % 10) ≡ true
digit_of n = digit_between (48 + n % 10) (omega arith) (omega arith)

pub six_digits_are : (n : ℕ) → list_all is_digit (six_digits n) ≡ true
six_digits_are n =
    and_from _ _ (digit_of (n / 100000)) (and_from _ _ (digit_of (n / 10000)) (and_from _ _ (digit_of (n / 1000))
    (and_from _ _ (digit_of (n / 100)) (and_from _ _ (digit_of (n / 10)) (and_from _ _ (digit_of n) refl)))))

pub six_again : (n : ℕ) → n < 10 ^ 6 → number (six_digits n) ≡ n
unfolding number
six_again n h =
    let q1 : n ≡ 10 * (n / 10) + n % 10 = omega arith in
    let q2 : n / 10 ≡ 10 * (n / 100) + n / 10 % 10 = omega arith in
    let q3 : n / 100 ≡ 10 * (n / 1000) + n / 100 % 10 = omega arith in
    let q4 : n / 1000 ≡ 10 * (n / 10000) + n / 1000 % 10 = omega arith in
    let q5 : n / 10000 ≡ 10 * (n / 100000) + n / 10000 % 10 = omega arith in
    let q6 : n / 100000 ≡ n / 100000 % 10 = omega arith in
    sum n (n / 10) (n / 100) (n / 1000) (n / 10000) (n / 100000) _ _ _ _ _ _ q1 q2 q3 q4 q5 q6 where
      sum : (n n1 n2 n3 n4 n5 a b c d e f : ℕ) → n ≡ 10 * n1 + f → n1 ≡ 10 * n2 + e → n2 ≡ 10 * n3 + d → n3 ≡ 10 * n4 + c → n4 ≡ 10 * n5 + b → n5 ≡ a
          → 10 * (10 * (10 * (10 * (10 * (0 + (48 + a - 48)) + (48 + b - 48)) + (48 + c - 48)) + (48 + d - 48)) + (48 + e - 48)) + (48 + f - 48) ≡ n
      sum n n1 n2 n3 n4 n5 a b c d e f q1 q2 q3 q4 q5 q6 = omega arith

-- a text that is not empty, by its first byte
pub by_first : (s : List ℕ) → 0 < length s → get_or s 0 0 ∷ drop 1 s ≡ s
by_first [] h = absurd (omega arith)
by_first (b ∷ bs) h = refl

-- what an amount with no sign is
amount_size_parts : (t : List ℕ) → is_amount_size t ≡ true
    → (is_number (whole_part t) ≡ true) × (get_or (last_seven t) 0 0 ≡ 46) × (list_all is_digit (drop 1 (last_seven t)) ≡ true)
unfolding is_amount_size
amount_size_parts t h =
    let a = and_parts _ _ h in
    let b = and_parts _ _ a.1 in
    (a.0, eqb-true _ _ b.0, b.1)

pub long_enough : (t : List ℕ) → is_amount_size t ≡ true → 7 < length t
long_enough t h =
    let p = amount_size_parts t h in
    let some = (number_parts (whole_part t) p.0).0 in
    omega (arith, some, length-take (length t - 7) t)

-- an amount with no sign is its whole units, a dot and six digits
pub amount_size_is : (n : ℕ) → amount_size n ≡ decimal (n / 10 ^ 6) ++ 46 ∷ six_digits (n % 10 ^ 6)
unfolding amount_size
amount_size_is n = append_assoc (decimal (n / 10 ^ 6)) (46 ∷ []) (six_digits (n % 10 ^ 6))

pub amount_size_spelled : (t : List ℕ) → is_amount_size t ≡ true → size_in t < 10 ^ 6 * 2 ^ 64 → amount_size (size_in t) ≡ t
unfolding size_in
amount_size_spelled t h low =
    let p = amount_size_parts t h in
    let long = long_enough t h in
    let w = number (whole_part t) in
    let seven : length (last_seven t) ≡ 7 = omega (arith, length-drop (length t - 7) t) in
    let first = by_first (last_seven t) (omega arith) in
    let six = six_spelled (drop 1 (last_seven t)) (omega (arith, length-drop 1 (last_seven t))) p.2 in
    let r = number (drop 1 (last_seven t)) in
    let whole = number_spelled (whole_part t) p.0 (omega arith) in
    let quotient : (w * 10 ^ 6 + r) / 10 ^ 6 ≡ w = omega (arith, six.1) in
    let rest : (w * 10 ^ 6 + r) % 10 ^ 6 ≡ r = omega (arith, six.1) in
    amount_size_is (w * 10 ^ 6 + r) ∙ rw (quotient, rest) (ap (λ x. x ++ 46 ∷ six_digits r) whole ∙ ap (λ x. whole_part t ++ 46 ∷ x) six.0
    ∙ ap (λ b. whole_part t ++ b ∷ drop 1 (last_seven t)) (sym p.1) ∙ ap (λ x. whole_part t ++ x) first ∙ take-append-drop (length t - 7) t)

-- the parts of a spelled amount
whole_again : (w s : List ℕ) → length s ≡ 6 → whole_part (w ++ 46 ∷ s) ≡ w
whole_again w s six = take_at w (46 ∷ s) _ (omega (arith, length-append w (46 ∷ s)))

seven_again : (w s : List ℕ) → length s ≡ 6 → last_seven (w ++ 46 ∷ s) ≡ 46 ∷ s
seven_again w s six = drop_at w (46 ∷ s) _ (omega (arith, length-append w (46 ∷ s)))

-- what is spelled is an amount with no sign, of the same number
spelled_again : (w s : List ℕ) (r : ℕ) → length s ≡ 6 → is_number w ≡ true → list_all is_digit s ≡ true → number s ≡ r
    → (is_amount_size (w ++ 46 ∷ s) ≡ true) × (size_in (w ++ 46 ∷ s) ≡ number w * 10 ^ 6 + r)
unfolding is_amount_size size_in
spelled_again w s r six is digits value =
    let whole = whole_again w s six in
    let seven = seven_again w s six in
    (rw (whole, seven, is) digits, rw (whole, seven, value) refl)

pub amount_size_again : (n : ℕ) → n < 10 ^ 6 * 2 ^ 64 → (is_amount_size (amount_size n) ≡ true) × (size_in (amount_size n) ≡ n)
amount_size_again n low =
    let w = n / 10 ^ 6 in
    let r = n % 10 ^ 6 in
    let small : w < 2 ^ 64 = omega arith in
    let below : r < 10 ^ 6 = omega arith in
    let again = spelled_again (decimal w) (six_digits r) r refl (is_number_again w small) (six_digits_are r) (six_again r below) in
    rw (amount_size_is n) (again.0, again.1 ∙ rw (number_again w small) (omega arith))

-- an amount with no sign begins with a digit
no_sign : (t : List ℕ) → is_amount_size t ≡ true → is_negative t ≡ false
no_sign t h =
    let p = amount_size_parts t h in
    let n = number_parts (whole_part t) p.0 in
    let long = long_enough t h in
    let first = get_or-take (length t - 7) t 0 0 (omega arith) in
    let digit = first_passes is_digit (whole_part t) n.0 n.1 in
    digit_first t (rw first at digit)

-- amounts with no sign are spelled in one way
spelling : IsSpelling is_amount_size size_in amount_size most_amount
spelling = record {
  spelled = λ t h low. amount_size_spelled t h (omega arith);
  again = λ n low. (amount_size_again n (omega arith)).0;
  value_again = λ n low. (amount_size_again n (omega arith)).1;
  plain = no_sign;
}

amount_is : (n : ℤ) → amount n ≡ with_sign amount_size n
amount_is (pos n) = refl
amount_is (negsuc n) = refl

-- an amount is the one spelling of its number
pub amount_spelled : (t : List ℕ) → is_amount t ≡ true → unsigned_abs (amount_in t) ≤ most_amount → amount (amount_in t) ≡ t
amount_spelled t h low = amount_is (amount_in t) ∙ signed_spelled spelling t h low

-- what is spelled is an amount of the same number
pub amount_again : (n : ℤ) → unsigned_abs n ≤ most_amount → (is_amount (amount n) ≡ true) × (amount_in (amount n) ≡ n)
amount_again n low = rw (amount_is n) (signed_again spelling n low)
