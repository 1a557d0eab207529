-- The answer of a claim, by the values that its two steps gave.
use Rattle.std.specs.Prelude.{ℕ, min, nat_lt, if◌then◌else◌}
use Rattle.flip_claims.specs.declared.answer.Claim.{Claim}
use Rattle.flip_claims.specs.declared.answer.Claim.TheVariants.{Held, Lost}

-- A claim for the slot s that found x and y is lost where one of them is smaller than s, to the least of them.
abbrev pub claim_of : ℕ → ℕ → ℕ → Claim
claim_of s x y = if nat_lt (min x y) s then Lost (min x y) else Held
