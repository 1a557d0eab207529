-- What a call read and wrote, beside its answer.
use Rattle.std.specs.Prelude.{◌≡◌, ℕ, ◌<◌, ◌≤◌, List, [], length, ⊤, Some}
use Rattle.std.specs.declared.option.Option.{Option}
use Rattle.mwt_base.specs.Told.{IsTold, Grows, GrowsByPrefix, TookMore}
use Rattle.mwt_base.specs.declared.status.Status.{Status}
use Rattle.mwt_base.specs.declared.status.Status.TheVariants.{Done, Broken, Refused, ReadFault, WriteFault, NoMemory}
use Rattle.mwt_tool.specs.declared.words.Mode.{Mode}
use Rattle.mwt_tool.specs.Intends.{Intends}
use Rattle.mwt_tool.specs.Modes.{Accepts, Reads}
use Rattle.mwt_tool.specs.Words.{AskFor}

-- the program came to an answer, and wrote it
abbrev pub IsAnswer : Status → Type 0
IsAnswer Done = ⊤
IsAnswer Broken = ⊤
IsAnswer Refused = ⊤
IsAnswer ReadFault = ⊥
IsAnswer WriteFault = ⊥
IsAnswer NoMemory = ⊥

-- this status and text are what the program means to write for what the source had left, where it tells
pub record Means (words : List (List ℕ)) (had : Option (List ℕ)) (status : Status) (text : List ℕ) : Type 0 where
  pub input : List ℕ
  pub told : IsTold had input
  pub intended : Intends words input status text

-- that text was written, where the sink tells
pub record Says (words : List (List ℕ)) (had : Option (List ℕ)) (status : Status) (before after : Option (List ℕ)) : Type 0 where
  pub text : List ℕ
  pub means : Means words had status text
  pub written : Grows before after text

-- a prefix of such a text was written, and nothing else
pub record SaysPrefix (words : List (List ℕ)) (had : Option (List ℕ)) (before after : Option (List ℕ)) : Type 0 where
  pub status : Status
  pub text : List ℕ
  pub means : Means words had status text
  pub written : GrowsByPrefix before after text

-- an input within the limit was read to its end, and of a longer one more than the limit
pub record ReadsUpTo (limit : ℕ) (had after : Option (List ℕ)) : Type 0 where
  pub whole : (input : List ℕ) → had ≡ Some input → length input ≤ limit → after ≡ Some []
  pub past : (input : List ℕ) → had ≡ Some input → limit < length input → TookMore limit had after

-- words that ask for a mode, and an input that this mode accepts: where it reads, the one that the source tells
pub record IsAcceptedInput (words : List (List ℕ)) (had : Option (List ℕ)) : Type 0 where
  pub mode : Mode
  pub asked : AskFor mode words
  pub input : List ℕ
  pub told : Reads mode → had ≡ Some input
  pub accepted : Accepts mode input
