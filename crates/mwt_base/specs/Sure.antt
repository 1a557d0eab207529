-- What a source in memory gives, and what a sink in memory keeps of what it is given.
use Rattle.std.specs.Prelude.{◌≡◌, ◌↔◌, ℕ, ◌+◌, ◌-◌, ◌^◌, ◌≤◌, List, [], ◌++◌, length, take, drop, min, Bool, true, IsTrue, None, Some, if◌then◌else◌}
use Rattle.std.specs.declared.option.Option.{Option}

-- a source: what it has left, and at most how many bytes it gives a call
pub record Supply : Type 0 where
  pub left : List ℕ
  pub chunk : ℕ

-- how many bytes a call gives to a buffer: as many as there are, at most a chunk, and as fit
abbrev pub given_count : List ℕ → ℕ → List ℕ → ℕ
given_count left chunk buf = min (min (length left) chunk) (length buf)

-- a source that has given k bytes
abbrev pub after_sure_read : Supply → ℕ → Supply
after_sure_read source k = record source { left = drop k source.left }

-- the first bytes of all that came, up to the room; whether that was all; how many came
pub record Collected : Type 0 where
  pub kept : List ℕ
  pub room : ℕ
  pub whole : Bool
  pub count : ℕ

-- it tells while all that came fitted
abbrev pub collected_bytes : Collected → Option (List ℕ)
collected_bytes s = if s.whole then Some s.kept else None

abbrev pub nothing_collected : ℕ → Collected
nothing_collected room = record { kept = []; room = room; whole = true; count = 0 }

-- one more piece: what of it fits is kept, all of it is counted
pub record Collects (old : Collected) (piece : List ℕ) (new : Collected) : Type 0 where
  pub kept : new.kept ≡ old.kept ++ take (old.room - length old.kept) piece
  pub room : new.room ≡ old.room
  pub whole : IsTrue new.whole ↔ (IsTrue old.whole × (length piece ≤ old.room - length old.kept))
  pub count : new.count ≡ min (old.count + length piece) (2 ^ 64 - 1)
