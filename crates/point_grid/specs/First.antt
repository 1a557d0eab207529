-- The first of the numbered things that are P.
use Rattle.std.specs.Prelude.{ℕ, ◌<◌, min, Option, Some, None, MatchOption}

-- i is the least number below count that is P
pub record IsLeast (count : ℕ) (P : ℕ → Type 0) (i : ℕ) : Type 0 where
  pub within : i < count
  pub holds : P i
  pub least : (j : ℕ) → j < i → ¬ P j

-- no number below count is P
abbrev pub HoldsNowhere : ℕ → (ℕ → Type 0) → Type 0
HoldsNowhere count P = (i : ℕ) → i < count → ¬ P i

-- the least number below count that is P, or none where there is none
abbrev pub IsFirst : ℕ → (ℕ → Type 0) → Option ℕ → Type 0
IsFirst count P answer = MatchOption answer (HoldsNowhere count P) (IsLeast count P)

-- the lesser of two numbers, where there are any
abbrev pub lesser_of : Option ℕ → Option ℕ → Option ℕ
lesser_of None b = b
lesser_of (Some i) None = Some i
lesser_of (Some i) (Some j) = Some (min i j)
