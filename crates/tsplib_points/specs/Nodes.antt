-- Node lines.
use Rattle.std.specs.Prelude.{ℕ, Bool, not, ◌&&◌, List, [], ◌∷◌, Option, Some, None, filter_map, ◌==◌, if◌then◌else◌}
use Rattle.std.specs.List.{list_any}
use Rattle.mwt_base.specs.Limits.{most_unit}
use Rattle.tsplib_points.specs.declared.reason.Reason.{Reason}
use Rattle.tsplib_points.specs.declared.reason.Reason.TheVariants.{CoordLine, NotWhole, RepeatedId}
use Rattle.tsplib_points.specs.Lines.{Line, words}
use Rattle.tsplib_points.specs.Numbers.{small_number}
use Rattle.tsplib_points.specs.Header.{section_lines}
use Rattle.tsplib_points.specs.Real.{Real, real_of, is_whole}

-- a node, with the number of its line
pub record Node : Type 0 where
  pub line : ℕ
  pub number : ℕ
  pub x : Real
  pub y : Real

abbrev pub node_from : ℕ → Option ℕ → Option Real → Option Real → Option Node
node_from line (Some number) (Some x) (Some y) = Some (record { line = line; number = number; x = x; y = y })
node_from line _ _ _ = None

-- exactly three fields with blanks between them: a node number and two reals
abbrev pub node_in : ℕ → List (List ℕ) → Option Node
node_in line (number ∷ x ∷ y ∷ []) = node_from line (small_number number) (real_of x) (real_of y)
node_in line _ = None

-- the node of a line, if it has the form of a node line
unfoldable pub node_of : Line → Option Node
node_of l = node_in l.number (words l.text)

-- the nodes of a file, in the order of its node lines
unfoldable pub nodes : List Line → List Node
nodes ls = filter_map node_of (section_lines ls)

abbrev pub is_whole_node : ℕ → Node → Bool
is_whole_node k n = is_whole k n.x && is_whole k n.y

abbrev pub has_number : ℕ → Node → Bool
has_number number n = n.number == number

-- why a line of the section fails, after the nodes before it
abbrev pub node_reason : List Node → Option Node → Option Reason
node_reason before None = Some CoordLine
node_reason before (Some n) =
    if not (is_whole_node most_unit n) then Some NotWhole
    else if list_any (has_number n.number) before then Some RepeatedId
    else None
