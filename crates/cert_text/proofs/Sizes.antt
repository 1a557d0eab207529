-- The text of a report is short.
use Rattle.std.proofs.Common.{◌≡◌, All, ℕ, ℤ, pos, negsuc, suc, ◌+◌, ◌*◌, ◌/◌, ◌%◌, ◌^◌, ◌<◌, ◌≤◌, List, [], ◌∷◌, ◌++◌, length, unsigned_abs, ap, ◌∙◌, arith, decimal}
use Rattle.std.specs.Fmt.{signed_decimal}
use Rattle.std.proofs.lemmas.Fmt.{length-decimal-le}
use Rattle.std.proofs.lemmas.Grind.{flat_map-append}
use Rattle.std.proofs.lemmas.List.{length-append}
use Rattle.std.proofs.lemmas.List.Concat.{flat_map-cons}
use Rattle.mwt_base.specs.Limits.{most_amount, most_anchor, most_coordinate, most_price}
use Rattle.mwt_base.specs.Line.{line}
use Rattle.length_enclosure.specs.Amount.{amount, amount_size, six_digits}
use Rattle.length_enclosure.proofs.Amounts.{amount_size_is}
use Rattle.cert_text.specs.Texts.{spaced, lines_text, block}
use Rattle.cert_text.proofs.Taking.{row_lines}

-- how many bytes fields take, with a byte after each
abbrev pub width : List (List ℕ) → ℕ
width [] = 0
width (f ∷ fs) = length f + 1 + width fs

spaced_short : (fs : List (List ℕ)) → length (spaced fs) ≤ width fs
spaced_short [] = omega arith
spaced_short (f ∷ []) = omega arith
spaced_short (f ∷ g ∷ gs) = omega (arith, length-append f (32 ∷ spaced (g ∷ gs)), spaced_short (g ∷ gs))

pub number_short : (n : ℕ) → n < 2 ^ 32 → length (decimal n) ≤ 10
number_short n h = length-decimal-le 10 n (omega arith) (omega arith) (omega arith)

-- the number of a point
pub index_short : (n : ℕ) → n < 10 ^ 4 → length (decimal n) ≤ 4
index_short n h = length-decimal-le 4 n (omega arith) (omega arith) (omega arith)

pub coordinate_short : (n : ℤ) → unsigned_abs n ≤ most_coordinate → length (signed_decimal n) ≤ 11
coordinate_short (pos n) h = let l = number_short n (omega arith) in omega arith
coordinate_short (negsuc n) h = let l = number_short (suc n) (omega arith) in omega arith

-- an amount whose whole units have at most k digits
size_short : (k n : ℕ) → 0 < k → n / 10 ^ 6 < 10 ^ k → n ≤ most_amount → length (amount_size n) ≤ k + 7
size_short k n some few h =
    let w : length (decimal (n / 10 ^ 6)) ≤ k = length-decimal-le k (n / 10 ^ 6) some few (omega arith) in
    rw (amount_size_is n) (omega (arith, w, length-append (decimal (n / 10 ^ 6)) (46 ∷ six_digits (n % 10 ^ 6))))

digits_short : (k : ℕ) (n : ℤ) → 0 < k → unsigned_abs n / 10 ^ 6 < 10 ^ k → unsigned_abs n ≤ most_amount → length (amount n) ≤ k + 8
digits_short k (pos n) some few h = let l = size_short k n some few h in omega arith
digits_short k (negsuc n) some few h = let l = size_short k (suc n) some few h in omega arith

pub amount_short : (n : ℤ) → unsigned_abs n ≤ most_amount → length (amount n) ≤ 28
amount_short n h = digits_short 20 n (omega arith) (omega arith) h

pub price_short : (n : ℤ) → unsigned_abs n ≤ most_price → length (amount n) ≤ 20
price_short n h = digits_short 12 n (omega arith) (omega arith) (omega arith)

pub anchor_short : (n : ℤ) → unsigned_abs n ≤ most_anchor → length (amount n) ≤ 21
anchor_short n h = digits_short 13 n (omega arith) (omega arith) (omega arith)

-- an anchor that has no sign
pub side_short : (n : ℕ) → n ≤ most_anchor → length (amount (pos n)) ≤ 20
side_short n h = size_short 13 n (omega arith) (omega arith) (omega arith)

-- the lines of rows, each of at most w bytes
rows_short : {X : Type 0} (spell : X → List (List ℕ)) (In : X → Type 0) (w : ℕ) → ((x : X) → In x → width (spell x) ≤ w) → (xs : List X) → All In xs
    → length (lines_text (row_lines spell xs)) ≤ (w + 1) * length xs
rows_short spell In w short [] all = omega arith
rows_short spell In w short (x ∷ xs) all =
    let first = short x (all 0 x (omega arith)) in
    let others = rows_short spell In w short xs (λ k d inside. all (suc k) d (omega arith)) in
    let text = spaced_short (spell x) in
    let cons : length (lines_text (row_lines spell (x ∷ xs))) ≡ length (line (spaced (spell x)) ++ lines_text (row_lines spell xs)) =
    ap length (flat_map-cons line (spaced (spell x)) (row_lines spell xs)) in
    omega (arith, first, others, text, cons, length-append (line (spaced (spell x))) (lines_text (row_lines spell xs)), length-append (spaced (spell x)) (10 ∷ []))

pub text_length : (xs ys : List (List ℕ)) → length (lines_text (xs ++ ys)) ≡ length (lines_text xs) + length (lines_text ys)
text_length xs ys = ap length (flat_map-append line xs ys) ∙ length-append (lines_text xs) (lines_text ys)

-- a line of at most 120 bytes before other lines
pub first_short : (fs : List (List ℕ)) (ls : List (List ℕ)) (m : ℕ) → width fs ≤ 120 → length (lines_text ls) ≤ m → length (lines_text (spaced fs ∷ ls)) ≤ 121 + m
first_short fs ls m h others =
    let text = spaced_short fs in
    let cons : length (lines_text (spaced fs ∷ ls)) ≡ length (line (spaced fs) ++ lines_text ls) = ap length (flat_map-cons line (spaced fs) ls) in
    omega (arith, h, others, text, cons, length-append (line (spaced fs)) (lines_text ls), length-append (spaced fs) (10 ∷ []))

pub block_short : {X : Type 0} (word : List ℕ) (spell : X → List (List ℕ)) (In : X → Type 0) (w : ℕ) → length word ≤ 20 → ((x : X) → In x → width (spell x) ≤ w)
    → (xs : List X) → length xs < 2 ^ 32 → All In xs → length (lines_text (block word spell xs)) ≤ 121 + (w + 1) * length xs
block_short word spell In w few short xs count all =
    let n = number_short (length xs) count in
    first_short (word ∷ decimal (length xs) ∷ []) (row_lines spell xs) ((w + 1) * length xs) (omega arith) (rows_short spell In w short xs all)
