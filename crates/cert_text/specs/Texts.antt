-- The text of a report: lines in a fixed order, each with one spelling.
use Rattle.std.specs.Prelude.{◌≡◌, ℕ, ℤ, pos, List, [], ◌∷◌, ◌++◌, length, map, codes, decimal}
use Rattle.std.specs.List.{flat_map, join_with_byte}
use Rattle.std.specs.Fmt.{signed_decimal}
use Rattle.mwt_base.specs.Line.{line}
use Rattle.exact_predicates.specs.declared.diamond.Diamond.{Diamond}
use Rattle.exact_predicates.specs.declared.diamond.Diamond.TheVariants.{On, Off}
use Rattle.exact_predicates.specs.declared.edge.Edge.{Edge}
use Rattle.exact_predicates.specs.declared.point.Point.{Point}
use Rattle.exact_predicates.specs.declared.tri.Tri.{Tri}
use Rattle.length_enclosure.specs.Amount.{amount}
use Rattle.cert_text.specs.declared.report.LineKind.{LineKind}
use Rattle.cert_text.specs.declared.report.LineKind.TheVariants.{Hull, Inner, Skeleton}
use Rattle.cert_text.specs.declared.report.Method.{Method}
use Rattle.cert_text.specs.declared.report.Method.TheVariants.{Flips, Faces}
use Rattle.cert_text.specs.declared.report.PriceLine.{PriceLine}
use Rattle.cert_text.specs.declared.report.Report.{Report}

-- fields with one space between
abbrev pub spaced : List (List ℕ) → List ℕ
spaced fields = join_with_byte 32 fields

-- the line of these fields, with its LF
abbrev pub line_of : List (List ℕ) → List ℕ
line_of fields = line (spaced fields)

-- lines, each ended by LF
abbrev pub lines_text : List (List ℕ) → List ℕ
lines_text lines = flat_map line lines

-- a point: its id and its coordinates
abbrev pub point_fields : Point → List (List ℕ)
point_fields p = decimal p.id ∷ signed_decimal p.x ∷ signed_decimal p.y ∷ []

-- a point of the hull: its number
abbrev pub hull_fields : ℕ → List (List ℕ)
hull_fields u = decimal u ∷ []

-- an edge: the numbers of its ends
abbrev pub edge_fields : Edge → List (List ℕ)
edge_fields e = decimal e.a ∷ decimal e.b ∷ []

-- a triangle: the numbers of its corners
abbrev pub tri_fields : Tri → List (List ℕ)
tri_fields t = decimal t.a ∷ decimal t.b ∷ decimal t.c ∷ []

-- the kind of a live edge and its amounts: an anchor; a price; a price and the anchors of the two sides
abbrev pub price_fields : LineKind → ℤ → ℤ → ℤ → List (List ℕ)
price_fields Hull value left right = codes "h" ∷ amount value ∷ []
price_fields Inner value left right = codes "i" ∷ amount value ∷ []
price_fields Skeleton value left right = codes "s" ∷ amount value ∷ amount left ∷ amount right ∷ []

-- a live edge
abbrev pub live_fields : PriceLine → List (List ℕ)
live_fields l = edge_fields l.edge ++ price_fields l.kind l.value l.left l.right

-- a word and a number
abbrev pub count_line : List ℕ → ℕ → List ℕ
count_line word n = spaced (word ∷ decimal n ∷ [])

-- how many items there are, and a line for each
abbrev pub block : {X : Type 0} → List ℕ → (X → List (List ℕ)) → List X → List (List ℕ)
block word fields xs = count_line word (length xs) ∷ map (λ x. spaced (fields x)) xs

abbrev pub diamond_word : Diamond → List ℕ
diamond_word On = codes "on"
diamond_word Off = codes "off"

abbrev pub method_word : Method → List ℕ
method_word Flips = codes "flips"
method_word Faces = codes "faces"

-- the lines before the blocks
abbrev pub head_lines : Report → List (List ℕ)
head_lines r =
    count_line (codes "mwt") r.version
    ∷ spaced (codes "diamond" ∷ diamond_word r.diamond ∷ [])
    ∷ count_line (codes "unit") r.unit
    ∷ count_line (codes "merged") r.merged
    ∷ []

-- the lines with the lengths
abbrev pub length_lines : Report → List (List ℕ)
length_lines r =
    spaced (codes "length" ∷ amount (pos r.lo) ∷ amount (pos r.hi) ∷ [])
    ∷ spaced (codes "bound" ∷ amount r.bound ∷ [])
    ∷ spaced (codes "gap" ∷ amount r.gap ∷ [])
    ∷ []

-- the lines after the blocks
abbrev pub tail_lines : Report → List (List ℕ)
tail_lines r =
    spaced (codes "method" ∷ method_word r.method ∷ [])
    ∷ (length_lines r ++ codes "end" ∷ [])

-- the points, the hull and the number of candidate edges
abbrev pub point_lines : Report → List (List ℕ)
point_lines r =
    block (codes "points") point_fields r.points
    ++ (block (codes "hull") hull_fields r.hull ++ count_line (codes "candidates") r.candidates ∷ [])

-- the live edges, the skeleton and the triangles
abbrev pub edge_lines : Report → List (List ℕ)
edge_lines r =
    block (codes "live") live_fields r.live
    ++ (block (codes "skeleton") edge_fields r.skeleton ++ block (codes "triangles") tri_fields r.tris)

-- a text grew by these lines
abbrev pub Grows : List ℕ → List ℕ → List (List ℕ) → Type 0
Grows old new lines = new ≡ old ++ lines_text lines

-- the lines of a report
unfoldable pub report_lines : Report → List (List ℕ)
report_lines r = head_lines r ++ (point_lines r ++ (edge_lines r ++ tail_lines r))

-- the text of a report
abbrev pub report_text : Report → List ℕ
report_text r = lines_text (report_lines r)
