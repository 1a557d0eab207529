-- The answer for a file of which no line fails, by what was gathered of its lines.
use Rattle.std.proofs.Common.{◌≡◌, ℕ, ◌≤◌, true, false, List, length, map, find, Some, None, refl, sym, ap, ◌∙◌, All}
use Rattle.std.specs.Option.{option_or, option_map}
use Rattle.std.specs.List.{AllZip, list_all}
use Rattle.std.proofs.lemmas.List.{length-map}
use Rattle.std.proofs.lemmas.Slice.Zip.{AllZip-long}
use Rattle.mwt_base.specs.Limits.{most_unit}
use Rattle.exact_predicates.specs.declared.point.Point.{Point}
use Rattle.exact_predicates.specs.PointSet.{PointSet}
use Rattle.exact_predicates.specs.Merging.{points_code, is_in_range, has_distinct_ids, IsMadeFrom}
use Rattle.tsplib_points.specs.declared.file.Refusal.{Refusal}
use Rattle.tsplib_points.specs.declared.gather.Gathered.{Gathered}
use Rattle.tsplib_points.specs.declared.node.KeptNode.{KeptNode}
use Rattle.tsplib_points.specs.declared.reason.Reason.TheVariants.{NoCoords, TooLarge, Count}
use Rattle.tsplib_points.specs.Reasons.{refused_at, refused}
use Rattle.tsplib_points.specs.Lines.{lines}
use Rattle.tsplib_points.specs.Header.{dimension}
use Rattle.tsplib_points.specs.Nodes.{Node}
use Rattle.tsplib_points.specs.Gathering.{KeepsNode, IsGathered, IsWithinUnit}
use Rattle.tsplib_points.specs.Files.{nodes_of, IsFileOf}
use Rattle.tsplib_points.specs.Refusals.{unit, scaled, is_large, is_count, points_refusal, refusal}
use Rattle.tsplib_points.proofs.Rules.{refusal-no_coords, refusal-count, refusal-points}
use Rattle.tsplib_points.proofs.DistinctNumbers.{distinct_ids, all_in_range}
use Rattle.tsplib_points.proofs.Units.{unit_within, unit_few}

-- whether DIMENSION tells the number of the kept nodes, and of the nodes
same_count : (bytes : List ℕ) (found : Gathered) → IsGathered bytes found
    → is_count found.dimension (length found.nodes.items) ≡ is_count (dimension (lines bytes)) (length (nodes_of bytes))
same_count bytes found g = rw (g.told, AllZip-long KeepsNode found.nodes.items (nodes_of bytes) g.kept) refl

-- there is no section
pub no_coords : (bytes : List ℕ) (found : Gathered) → IsGathered bytes found → found.has_section ≡ false → refusal bytes ≡ Some (refused NoCoords)
no_coords bytes found g e = refusal-no_coords bytes g.fine (sym g.section ∙ e)

-- DIMENSION tells another number of nodes
pub wrong_count : (bytes : List ℕ) (found : Gathered) → IsGathered bytes found → found.has_section ≡ true
    → is_count found.dimension (length found.nodes.items) ≡ false → refusal bytes ≡ Some (refused Count)
wrong_count bytes found g section count = refusal-count bytes g.fine (sym g.section ∙ section) (sym (same_count bytes found g) ∙ count)

-- There is a section, DIMENSION tells the number of nodes, and k is the unit of the file.
pub record HasNodes (bytes : List ℕ) (found : Gathered) (k : ℕ) : Type 0 where
  pub gathered : IsGathered bytes found
  pub section : found.has_section ≡ true
  pub count : is_count found.dimension (length found.nodes.items) ≡ true
  pub least : k ≡ unit (nodes_of bytes)

-- by what was read of the bytes, and what was told of the kept nodes
pub HasNodes-from : (bytes given : List ℕ) (found : Gathered) (counted measured : List KeptNode) (k : ℕ) → given ≡ bytes → IsGathered given found
    → found.has_section ≡ true → counted ≡ found.nodes.items → true ≡ is_count found.dimension (length counted)
    → measured ≡ found.nodes.items → ((ns : List Node) → AllZip KeepsNode measured ns → k ≡ unit ns) → HasNodes bytes found k
HasNodes-from bytes given found counted measured k all gathered section same count own least =
    let of_bytes : IsGathered bytes found = rw (← all) gathered in
    record {
      gathered = of_bytes;
      section = section;
      count = sym (rw same at count);
      least = least (nodes_of bytes) (rw own of_bytes.kept);
    }

pub nodes_within : (bytes : List ℕ) (found : Gathered) (k : ℕ) → HasNodes bytes found k → All (IsWithinUnit k) found.nodes.items
nodes_within bytes found k h = rw h.least (unit_within found.nodes.items (nodes_of bytes) h.gathered.kept)

pub unit_at_most : (bytes : List ℕ) (found : Gathered) (k : ℕ) → HasNodes bytes found k → k ≤ most_unit
unit_at_most bytes found k h = rw h.least (unit_few found.nodes.items (nodes_of bytes) h.gathered.kept)

rules_left : (bytes : List ℕ) (found : Gathered) (k : ℕ) → HasNodes bytes found k
    → refusal bytes ≡ option_or (option_map (λ n. refused_at n.line TooLarge) (find (is_large k) (nodes_of bytes)))
    (points_refusal (points_code (map (scaled k) (nodes_of bytes))))
rules_left bytes found k h =
    rw h.least (refusal-points bytes h.gathered.fine (sym h.gathered.section ∙ h.section) (sym (same_count bytes found h.gathered) ∙ h.count))

-- a node is too large
pub too_large : (bytes : List ℕ) (found : Gathered) (k : ℕ) (why : Refusal) → HasNodes bytes found k
    → option_map (λ n. refused_at n.line TooLarge) (find (is_large k) (nodes_of bytes)) ≡ Some why → refusal bytes ≡ Some why
too_large bytes found k why h e =
    rules_left bytes found k h ∙ ap (λ o. option_or o (points_refusal (points_code (map (scaled k) (nodes_of bytes))))) e

-- No node is too large, and these are the points of the nodes.
pub record HasPoints (bytes : List ℕ) (found : Gathered) (k : ℕ) (points : List Point) : Type 0 where
  pub nodes : HasNodes bytes found k
  pub small : find (is_large k) (nodes_of bytes) ≡ None
  pub are : points ≡ map (scaled k) (nodes_of bytes)

rules_of_points : (bytes : List ℕ) (found : Gathered) (k : ℕ) (points : List Point) → HasPoints bytes found k points
    → refusal bytes ≡ points_refusal (points_code points)
rules_of_points bytes found k points h =
    rules_left bytes found k h.nodes ∙ rw (h.small, h.are) refl

pub HasPoints-from : (bytes : List ℕ) (found : Gathered) (k : ℕ) (points : List Point) → HasNodes bytes found k
    → ((ns : List Node) → AllZip KeepsNode found.nodes.items ns → points ≡ map (scaled k) ns)
    → ((ns : List Node) → AllZip KeepsNode found.nodes.items ns → find (is_large k) ns ≡ None) → HasPoints bytes found k points
HasPoints-from bytes found k points h are small = record {
  nodes = h;
  small = small (nodes_of bytes) h.gathered.kept;
  are = are (nodes_of bytes) h.gathered.kept;
}

-- there is a point for each kept node
pub as_many_points : (bytes : List ℕ) (found : Gathered) (k : ℕ) (points : List Point) → HasPoints bytes found k points → length points ≡ length found.nodes.items
as_many_points bytes found k points h =
    ap length h.are ∙ length-map (nodes_of bytes) (scaled k) ∙ AllZip-long KeepsNode found.nodes.items (nodes_of bytes) h.nodes.gathered.kept

pub points_in_range : (bytes : List ℕ) (found : Gathered) (k : ℕ) (points : List Point) → HasPoints bytes found k points → list_all is_in_range points ≡ true
points_in_range bytes found k points h = rw h.are (all_in_range k (nodes_of bytes) h.small)

pub points_distinct : (bytes : List ℕ) (found : Gathered) (k : ℕ) (points : List Point) → HasPoints bytes found k points → has_distinct_ids points ≡ true
points_distinct bytes found k points h = rw h.are (distinct_ids k (lines bytes) h.nodes.gathered.fine)

-- the points break a rule of a set of points
pub broken_rule : (bytes : List ℕ) (found : Gathered) (k : ℕ) (points : List Point) (why : Refusal) → HasPoints bytes found k points
    → points_refusal (points_code points) ≡ Some why → refusal bytes ≡ Some why
broken_rule bytes found k points why h e = rules_of_points bytes found k points h ∙ e

-- the points of an accepted file
pub is_file : (bytes : List ℕ) (found : Gathered) (k : ℕ) (points : List Point) (set : PointSet) → HasPoints bytes found k points → IsMadeFrom points set
    → IsFileOf bytes (record { points = set; unit = k; merged = set.merged })
is_file bytes found k points set h made = record {
  accepted = rules_of_points bytes found k points h ∙ ap points_refusal made.lawful;
  least_unit = h.nodes.least;
  made = rw (← h.are) made;
  merged_told = refl;
}
