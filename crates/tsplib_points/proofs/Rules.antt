-- The refusal of a file, rule by rule.
use Rattle.std.proofs.Common.{◌≡◌, ℕ, true, false, List, [], length, map, find, Some, None, refl, ap}
use Rattle.std.specs.Option.{option_or, option_map}
use Rattle.std.specs.List.{list_any}
use Rattle.exact_predicates.specs.Merging.{points_code}
use Rattle.tsplib_points.specs.declared.file.Refusal.{Refusal}
use Rattle.tsplib_points.specs.declared.reason.Reason.TheVariants.{NoCoords, TooLarge, Count}
use Rattle.tsplib_points.specs.Reasons.{refused_at, refused}
use Rattle.tsplib_points.specs.Lines.{lines}
use Rattle.tsplib_points.specs.Header.{is_section, dimension}
use Rattle.tsplib_points.specs.Files.{nodes_of}
use Rattle.tsplib_points.specs.Refusals.{first_failing, unit, scaled, is_large, is_count, points_refusal, file_refusal, refusal}

-- a line fails
pub refusal-line : (bytes : List ℕ) (why : Refusal) → first_failing [] (lines bytes) ≡ Some why → refusal bytes ≡ Some why
unfolding refusal
refusal-line bytes why h = ap (λ o. option_or o (file_refusal (lines bytes))) h

-- no line fails, and there is no section
pub refusal-no_coords : (bytes : List ℕ) → first_failing [] (lines bytes) ≡ None → list_any is_section (lines bytes) ≡ false
    → refusal bytes ≡ Some (refused NoCoords)
unfolding refusal file_refusal
refusal-no_coords bytes fine section = rw (fine, section) refl

-- no line fails, and DIMENSION tells another number of nodes
pub refusal-count : (bytes : List ℕ) → first_failing [] (lines bytes) ≡ None → list_any is_section (lines bytes) ≡ true
    → is_count (dimension (lines bytes)) (length (nodes_of bytes)) ≡ false → refusal bytes ≡ Some (refused Count)
unfolding refusal file_refusal
refusal-count bytes fine section count = rw (fine, section, count) refl

-- a node is too large, or else the rules of a set of points
pub refusal-points : (bytes : List ℕ) → first_failing [] (lines bytes) ≡ None → list_any is_section (lines bytes) ≡ true
    → is_count (dimension (lines bytes)) (length (nodes_of bytes)) ≡ true
    → refusal bytes ≡ option_or (option_map (λ n. refused_at n.line TooLarge) (find (is_large (unit (nodes_of bytes))) (nodes_of bytes)))
    (points_refusal (points_code (map (scaled (unit (nodes_of bytes))) (nodes_of bytes))))
unfolding refusal file_refusal
refusal-points bytes fine section count = rw (fine, section, count) refl
