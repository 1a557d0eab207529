-- A pass over the lines of a file, line by line.
use Rattle.std.specs.Prelude.{◌≡◌, ℕ, List, [], ◌∷◌, ◌++◌, Some, None, is_some, ⊤}
use Rattle.std.specs.Option.{option_map}
use Rattle.std.specs.List.{AllZip, list_any}
use Rattle.std.specs.Ordering.{nat_cmp}
use Rattle.std.specs.BTreeSet.{contains}
use Rattle.tsplib_points.specs.declared.file.FileStop.{FileStop}
use Rattle.tsplib_points.specs.declared.file.FileStop.TheVariants.{Refused, NoMemory}
use Rattle.tsplib_points.specs.declared.gather.LinePass.{LinePass}
use Rattle.tsplib_points.specs.Lines.{Line}
use Rattle.tsplib_points.specs.Header.{is_end, is_section, is_dimension, header_lines, dimension}
use Rattle.tsplib_points.specs.Nodes.{nodes, has_number}
use Rattle.tsplib_points.specs.Reasons.{refused_at}
use Rattle.tsplib_points.specs.Refusals.{line_reason}
use Rattle.tsplib_points.specs.Gathering.{KeepsNode}

-- this is known of the lines before
pub record IsPassed (pass : LinePass) (before : List Line) : Type 0 where
  pub end : pass.has_end ≡ list_any is_end before
  pub section : pass.found.has_section ≡ list_any is_section before
  pub told : pass.found.dimension ≡ dimension before
  pub some_told : is_some pass.found.dimension ≡ list_any is_dimension (header_lines before)
  pub kept : AllZip KeepsNode pass.found.nodes.items (nodes before)
  pub numbers : (q : ℕ) → contains nat_cmp pass.numbers q ≡ list_any (has_number q) (nodes before)

-- a line does not fail, and afterwards it is known too
abbrev pub GoesOver : LinePass → LinePass → Line → Type 0
GoesOver old new l =
    (before : List Line) → IsPassed old before → (line_reason before l ≡ None) × IsPassed new (before ++ l ∷ [])

-- a line fails for this reason, or memory is wanting
abbrev pub StopsFor : LinePass → Line → FileStop → Type 0
StopsFor old l NoMemory = ⊤
StopsFor old l (Refused why) =
    (before : List Line) → IsPassed old before → option_map (refused_at l.number) (line_reason before l) ≡ Some why
