-- The table of modes: whether each reads the source, which inputs it accepts, and what it means to write for an input.
-- Everything else says what it says for any mode.
use Rattle.std.specs.Prelude.{◌≡◌, ◌≤◌, ⊤, List, ℕ, length}
use Rattle.mwt_base.specs.Limits.{most_bytes}
use Rattle.mwt_base.specs.declared.status.Status.{Status}
use Rattle.mwt_base.specs.declared.status.Status.TheVariants.{Done}
use Rattle.mwt_tool.specs.declared.words.Mode.{Mode}
use Rattle.mwt_tool.specs.declared.words.Mode.TheVariants.{Check, Explain, Make, Solve, Trial}
use Rattle.mwt_tool.specs.Checks.{Checks, IsValidText}
use Rattle.mwt_tool.specs.Makes.{made_text}
use Rattle.mwt_tool.specs.Solves.{Explains, IsSolvable, Solves, Summarizes}

-- the mode reads the source to its end
abbrev pub Reads : Mode → Type 0
Reads (Solve settings) = ⊤
Reads Check = ⊤
Reads (Make making) = ⊥
Reads (Trial settings making) = ⊥
Reads (Explain settings) = ⊤

-- the mode accepts the input: where no fault comes and memory is there, it is answered with Done
abbrev pub Accepts : Mode → List ℕ → Type 0
Accepts (Solve settings) input = (length input ≤ most_bytes) × IsSolvable settings input
Accepts Check input = IsValidText input
Accepts (Make making) input = ⊤
Accepts (Trial settings making) input = IsSolvable settings (made_text making.seed making.points)
Accepts (Explain settings) input = (length input ≤ most_bytes) × IsSolvable settings input

-- the mode means to write this text with this status for the input
abbrev pub Answers : Mode → List ℕ → Status → List ℕ → Type 0
Answers (Solve settings) input status text = Solves settings input status text
Answers Check input status text = Checks input status text
Answers (Make making) input status text = (status ≡ Done) × (text ≡ made_text making.seed making.points)
Answers (Trial settings making) input status text = Summarizes settings (made_text making.seed making.points) status text
Answers (Explain settings) input status text = Explains settings input status text
