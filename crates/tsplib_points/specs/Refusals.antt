-- The refusal of a file: that of the first line that fails, or else that of the first rule of the whole file that fails.
use Rattle.std.specs.Prelude.{ℕ, ◌+◌, Bool, false, not, ◌||◌, List, [], ◌∷◌, ◌++◌, length, map, find, Option, Some, None, unwrap_or, ◌==◌, if◌then◌else◌}
use Rattle.std.specs.Option.{option_or, option_map}
use Rattle.std.specs.List.{list_any, list_all, range_with_len}
use Rattle.mwt_base.specs.Limits.{most_unit}
use Rattle.exact_predicates.specs.declared.point.Point.{Point}
use Rattle.exact_predicates.specs.Merging.{is_too_large, points_code}
use Rattle.tsplib_points.specs.declared.file.Refusal.{Refusal}
use Rattle.tsplib_points.specs.declared.reason.Reason.{Reason}
use Rattle.tsplib_points.specs.declared.reason.Reason.TheVariants.{NoCoords, TooLarge, Count, TooMany, TooFew, Flat, AfterEnd}
use Rattle.tsplib_points.specs.Reasons.{refused_at, refused}
use Rattle.tsplib_points.specs.Lines.{Line, lines, is_blank_line}
use Rattle.tsplib_points.specs.Header.{is_end, is_section, is_dimension, parts_of, dimension, header_reason}
use Rattle.tsplib_points.specs.Real.{size_times, times}
use Rattle.tsplib_points.specs.Nodes.{Node, node_of, nodes, node_reason, is_whole_node}

-- Why a line fails, after the lines before it. The header runs to the first NODE_COORD_SECTION and the file to the first
-- EOF, after which only blank lines may come; a blank line is passed over wherever it stands.
unfoldable pub line_reason : List Line → Line → Option Reason
line_reason before l =
    if is_blank_line l then None
    else if list_any is_end before then Some AfterEnd
    else if not (list_any is_section before) then header_reason (list_any is_dimension before) (parts_of l.text)
    else if is_end l then None
    else node_reason (nodes before) (node_of l)

-- the refusal of the first line that fails among the lines that are left, after those before them
abbrev pub first_failing : List Line → List Line → Option Refusal
first_failing before [] = None
first_failing before (l ∷ rest) =
    option_or (option_map (refused_at l.number) (line_reason before l)) (first_failing (before ++ l ∷ []) rest)

-- each coordinate times 10^k is whole
abbrev pub are_whole : List Node → ℕ → Bool
are_whole ns k = list_all (is_whole_node k) ns

-- the least k from 0 up to the limit for which that is so
unfoldable pub unit : List Node → ℕ
unit ns = unwrap_or (find (are_whole ns) (range_with_len 0 (most_unit + 1))) most_unit

-- a node with its coordinates times 10^k
abbrev pub scaled : ℕ → Node → Point
scaled k n = record { id = n.number; x = times k n.x; y = times k n.y }

-- a coordinate times 10^k is out of range
abbrev pub is_large : ℕ → Node → Bool
is_large k n = is_too_large (size_times k n.x) || is_too_large (size_times k n.y)

abbrev pub is_count : Option ℕ → ℕ → Bool
is_count None n = false
is_count (Some told) n = told == n

-- The refusal of the whole file for a rule that a list of points breaks, by the number of that rule: 2, too many
-- stay; 1, fewer than 3 stay; 3, all lie on one line. No other rule is broken where the nodes have distinct numbers and
-- no scaled coordinate is too large.
abbrev pub points_refusal : Option ℕ → Option Refusal
points_refusal None = None
points_refusal (Some rule) = Some (refused (if rule == 2 then TooMany else if rule == 1 then TooFew else Flat))

-- the refusal of the first rule of the whole file that fails
unfoldable pub file_refusal : List Line → Option Refusal
file_refusal ls =
    let ns = nodes ls in
    let k = unit ns in
    if not (list_any is_section ls) then Some (refused NoCoords)
    else if not (is_count (dimension ls) (length ns)) then Some (refused Count)
    else option_or (option_map (λ n. refused_at n.line TooLarge) (find (is_large k) ns))
    (points_refusal (points_code (map (scaled k) ns)))

-- why bytes are no accepted file, if they are none
unfoldable pub refusal : List ℕ → Option Refusal
refusal bytes = option_or (first_failing [] (lines bytes)) (file_refusal (lines bytes))
