-- Bits, 64 to a word.
use Rattle.std.proofs.Common.{◌≡◌, ◌≢◌, ℕ, zero, suc, ◌/◌, ◌%◌, ◌^◌, ◌<◌, max, Bool, true, false, List, length, replicate, get_or, set, sym, refl, ap, ◌∙◌, arith, bit_or, get_or-set_other, get_or-set_same}
use mathlib.Core.Logic.{dite}
use native.Mathlib.Decide.{ℕ_discrete}
use Rattle.std.specs.Int.{bit_at}
use Rattle.std.proofs.lemmas.Nat.Bits.{bit_at_or, bit_at-pow_same, bit_at-pow_other, bit_at-lt, bit_at-zero}
use Rattle.mark_seats.specs.Bits.{bit_of, one_if}

-- the words with the bit of e set
abbrev pub with_bit : List ℕ → ℕ → List ℕ
with_bit ws e = set ws (e / 64) (bit_or (get_or ws (e / 64) 0) (2 ^ (e % 64)))

pub bit_here : (ws : List ℕ) (e : ℕ) → e / 64 < length ws → bit_of (with_bit ws e) e ≡ 1
bit_here ws e low = let w : ℕ = get_or ws (e / 64) 0 in let k : ℕ = e % 64 in let small = bit_at-lt w k in let m : max (bit_at w k) 1 ≡ 1 = omega arith in
    ap (λ (n : ℕ). bit_at n k) (get_or-set_same ws (e / 64) (bit_or w (2 ^ k)) 0 low) ∙ (bit_at_or w (2 ^ k) k ∙ (ap (max (bit_at w k)) (bit_at-pow_same k) ∙ m))

pub bit_else : (ws : List ℕ) (e f : ℕ) → e / 64 < length ws → f ≢ e → bit_of (with_bit ws e) f ≡ bit_of ws f
bit_else ws e f low other = let w : ℕ = get_or ws (e / 64) 0 in let k : ℕ = e % 64 in let j : ℕ = f % 64 in dite (ℕ_discrete (f / 64) (e / 64))
    (λ same. let apart : j ≢ k = (λ z. other (omega arith)) in let m : max (bit_at w j) 0 ≡ bit_at w j = omega arith in
    ap (λ (i : ℕ). bit_at (get_or (with_bit ws e) i 0) j) same ∙ (ap (λ (n : ℕ). bit_at n j) (get_or-set_same ws (e / 64) (bit_or w (2 ^ k)) 0 low)
    ∙ (bit_at_or w (2 ^ k) j ∙ (ap (max (bit_at w j)) (bit_at-pow_other k j apart) ∙ (m ∙ ap (λ (i : ℕ). bit_at (get_or ws i 0) j) (sym same))))))
    (λ ne. ap (λ (n : ℕ). bit_at n j) (get_or-set_other ws (e / 64) (f / 64) (bit_or w (2 ^ k)) 0 ne))

pub one_if_true : (b : Bool) → one_if b ≡ 1 → b ≡ true
one_if_true true h = refl
one_if_true false h = absurd (omega arith)

pub blank_word : (n e : ℕ) → get_or (replicate n zero) e zero ≡ zero
blank_word zero e = refl
blank_word (suc n) zero = refl
blank_word (suc n) (suc e) = blank_word n e

-- no bit of blank words is set
pub blank_bit : (n e : ℕ) → bit_of (replicate n zero) e ≡ zero
blank_bit n e = ap (λ (w : ℕ). bit_at w (e % 64)) (blank_word n (e / 64)) ∙ bit_at-zero (e % 64)
