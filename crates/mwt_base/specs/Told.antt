-- What a source has left and what a sink holds, where they tell.
use Rattle.std.specs.Prelude.{◌≡◌, ℕ, ◌<◌, List, [], ◌++◌, length, take, ⊤, None, Some, Result, MatchResult}
use Rattle.std.specs.Io.KnownBytes.{Consumes}
use Rattle.std.specs.declared.option.Option.{Option}

-- where they are told, they are these
abbrev pub IsTold : Option (List ℕ) → List ℕ → Type 0
IsTold None bytes = ⊤
IsTold (Some known) bytes = known ≡ bytes

-- what a sink holds grew by these bytes: where it tells afterwards, it told before
abbrev pub Grows : Option (List ℕ) → Option (List ℕ) → List ℕ → Type 0
Grows before None bytes = ⊤
Grows None (Some new) bytes = ⊥
Grows (Some old) (Some new) bytes = new ≡ old ++ bytes

-- a write took the first k bytes of the piece at `Ok(k)`, and nothing at a failure
abbrev pub WriteGrows : {E : Type 0} → Option (List ℕ) → Option (List ℕ) → Result ℕ E → List ℕ → Type 0
WriteGrows before after result piece =
    MatchResult result (λ k. Grows before after (take k piece)) (λ _. Grows before after [])

-- what was taken is the front of what was left
pub record TakesFront (before after : Option (List ℕ)) : Type 0 where
  pub bytes : List ℕ
  pub taken : Consumes before after bytes

-- these bytes were all that was left, and the end was seen
abbrev pub ReadToEnd : Option (List ℕ) → Option (List ℕ) → List ℕ → Type 0
ReadToEnd None after bytes = ⊤
ReadToEnd (Some all) after bytes = (bytes ≡ all) × (after ≡ Some [])

-- more than so many bytes were taken
pub record TookMore (limit : ℕ) (before after : Option (List ℕ)) : Type 0 where
  pub bytes : List ℕ
  pub taken : Consumes before after bytes
  pub more : limit < length bytes

-- what was taken stands after what was kept
pub record KeepsTaken (before after : Option (List ℕ)) (old new : List ℕ) : Type 0 where
  pub bytes : List ℕ
  pub taken : Consumes before after bytes
  pub kept : new ≡ old ++ bytes

-- of these bytes all but the rest was written, and nothing else
pub record GrowsUpTo (before after : Option (List ℕ)) (bytes rest : List ℕ) : Type 0 where
  pub done : List ℕ
  pub parts : done ++ rest ≡ bytes
  pub grows : Grows before after done

-- a prefix of these bytes was written, and nothing else
abbrev pub GrowsByPrefix : Option (List ℕ) → Option (List ℕ) → List ℕ → Type 0
GrowsByPrefix before after bytes = (rest : List ℕ) × GrowsUpTo before after bytes rest
