-- Propositions in a row: all of them hold, or one of them is the first that does not.
use Rattle.std.specs.Prelude.{◌≡◌, ◌⊎◌, ⊤, ℕ, ◌+◌, Option, None, Some}

pub data Parts : Type 1 where
  done : Parts
  part : Type 0 → Parts → Parts

-- every part holds
abbrev pub AllHold : Parts → Type 0
AllHold done = ⊤
AllHold (part p ps) = p × AllHold ps

-- counted from the number `first` on, part k is the first that does not hold
abbrev pub FailsFirst : ℕ → Parts → ℕ → Type 0
FailsFirst first done k = ⊥
FailsFirst first (part p ps) k = ((k ≡ first) × ¬ p) ⊎ (p × FailsFirst (first + 1) ps k)

-- counted so, all of them hold, or this one is the first that does not
abbrev pub IsFirstToFail : ℕ → Parts → Option ℕ → Type 0
IsFirstToFail first ps None = AllHold ps
IsFirstToFail first ps (Some k) = FailsFirst first ps k
