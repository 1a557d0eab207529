-- Whole square roots, rounded down and rounded up.
use Rattle.std.specs.Prelude.{ℕ, zero, suc, ◌*◌, ◌≤◌, Bool, nat_le, ◌==◌, if◌then◌else◌}

-- r is the greatest number whose square is at most n
pub record IsRootDown (n r : ℕ) : Type 0 where
  pub fits : r * r ≤ n
  pub greatest : (s : ℕ) → s * s ≤ n → s ≤ r

-- r is the least number whose square is at least n
pub record IsRootUp (n r : ℕ) : Type 0 where
  pub covers : n ≤ r * r
  pub least : (s : ℕ) → n ≤ s * s → r ≤ s

-- the greatest r up to k whose square is at most n
unfoldable pub root_down_upto : ℕ → ℕ → ℕ
root_down_upto zero n = 0
root_down_upto (suc k) n = if nat_le (suc k * suc k) n then suc k else root_down_upto k n

-- the least r up to k whose square is at least n, where that of k is
unfoldable pub root_up_upto : ℕ → ℕ → ℕ
root_up_upto zero n = 0
root_up_upto (suc k) n = if nat_le n (k * k) then root_up_upto k n else suc k

-- the root of n, rounded down; the one r with IsRootDown n r
unfoldable pub root_down : ℕ → ℕ
root_down n = root_down_upto n n

-- the root of n, rounded up; the one r with IsRootUp n r, since n ≤ n * n
unfoldable pub root_up : ℕ → ℕ
root_up n = root_up_upto n n

-- whether n is a square
abbrev pub is_square : ℕ → Bool
is_square n = root_down n * root_down n == n
