-- Columns, rows and numbers of cells.
use Rattle.std.proofs.Common.{◌≡◌, ℕ, zero, suc, ◌+◌, ◌*◌, ◌-◌, ◌/◌, ◌<◌, ◌≤◌, ℤ, ◌-ℤ◌, ◌≤ℤ◌, unsigned_abs, ap, arith, ⊎_elim, mul-le-mul_right}
use Rattle.std.proofs.Math.Nat.{div-mul-le_self, div-lt_iff_lt-mul, mul-le-mul}
use Rattle.std.proofs.lemmas.Bool.{cases_lt}
use Rattle.std.proofs.lemmas.Int.{ints}
use Rattle.std.proofs.lemmas.Nat.{le-div}
use Rattle.exact_predicates.specs.Root.{IsRootUp}
use Rattle.point_grid.specs.Cells.{part_of}

div_rises : (m n k : ℕ) → 0 < k → m ≤ n → m / k ≤ n / k
div_rises m n k pos l = le-div (m / k) n k pos (omega (arith, div-mul-le_self m k))

-- a greater number is in no part before
pub part_rises : (g : ℕ) (low high x y : ℤ) → low ≤ℤ x → x ≤ℤ y → part_of g low high x ≤ part_of g low high y
part_rises g low high x y lx xy = div_rises _ _ _ (omega arith) (mul-le-mul_right g (omega (arith, ints)))

quotient_within : (a w g : ℕ) → 0 < g → a ≤ w → a * g / (w + 1) < g
quotient_within a w g some l =
    let m = mul-le-mul_right g l in
    (div-lt_iff_lt-mul {k = w + 1} {x = a * g} {y = g} (omega arith)).1 (omega arith)

-- each number is in a part
pub part_within : (g : ℕ) (low high x : ℤ) → 0 < g → low ≤ℤ x → x ≤ℤ high → part_of g low high x < g
part_within g low high x some lx xh = quotient_within (unsigned_abs (x -ℤ low)) (unsigned_abs (high -ℤ low)) g some (omega (arith, ints))

row_apart : (g r c s d : ℕ) → c < g → r < s → r * g + c < s * g + d
row_apart g r c s d c_in l = let m : (r + 1) * g ≤ s * g = mul-le-mul_right g (omega arith) in omega arith

mul-same : (r s g : ℕ) → r ≡ s → r * g ≡ s * g
mul-same r s g e = ap (λ k. k * g) e

-- the number of a cell tells its row and its column
pub cell_parts : (g r c s d : ℕ) → c < g → d < g → r * g + c ≡ s * g + d → (r ≡ s) × (c ≡ d)
cell_parts g r c s d c_in d_in e =
    let same : r ≡ s =
    ⊎_elim
    (λ l. let m = row_apart g r c s d c_in l in absurd (omega arith))
    (λ l. ⊎_elim (λ k. let m = row_apart g s d r c d_in k in absurd (omega arith)) (λ k. omega arith) (cases_lt s r))
    (cases_lt r s) in
    (same, omega (arith, e, mul-same r s g same))

pub cell_within : (g r c : ℕ) → r < g → c < g → r * g + c < g * g
cell_within g r c r_in c_in = omega (arith, row_apart g r c g 0 c_in r_in)

-- the side, by a root
pub side_made : (n r : ℕ) → 0 < n → r * r ≤ n - 1 → n - 1 < (r + 1) * (r + 1) → IsRootUp n (r + 1)
side_made n r some low high = record {
  covers = omega arith;
  least = λ h l. ⊎_elim (λ k. let m : h * h ≤ r * r = mul-le-mul (omega arith) (omega arith) in absurd (omega arith)) (λ k. k) (cases_lt h (r + 1));
}

pub side_only : (n g h : ℕ) → IsRootUp n g → IsRootUp n h → g ≡ h
side_only n g h s t = omega (arith, s.least h t.covers, t.least g s.covers)

pub side_some : (n g : ℕ) → 0 < n → IsRootUp n g → 0 < g
side_some n zero some s = let e = s.covers in absurd (omega arith)
side_some n (suc g) some s = omega arith

pub side_few : (n g : ℕ) → n ≤ 10000 → IsRootUp n g → g ≤ 100
side_few n g few s = s.least 100 few

-- a root is small
pub root_few : (n r : ℕ) → n ≤ 10000 → r * r ≤ n → r ≤ 100
root_few n r few l = ⊎_elim (λ k. omega arith) (λ k. let m : 101 * 101 ≤ r * r = mul-le-mul {n₁ = 101} {m₁ = 101} {n₂ = r} {m₂ = r} (omega arith) (omega arith) in absurd (omega arith)) (cases_lt r 101)
