-- The picture of a report: SVG 1.1, line by line. What is drawn later hides what lies below it.
use Rattle.std.specs.Prelude.{ℕ, Bool, List, [], ◌∷◌, ◌++◌, length, map, codes, decimal, slice_index_or, nat_lt, if◌then◌else◌}
use Rattle.cert_text.specs.declared.report.Report.{Report}
use Rattle.cert_text.specs.Texts.{lines_text}
use Rattle.svg_picture.specs.declared.frame.Frame.{Frame}
use Rattle.svg_picture.specs.declared.frame.Spot.{Spot}
use Rattle.svg_picture.specs.Edges.{edges_once, other_edges, skeleton_edges, tri_sides}
use Rattle.svg_picture.specs.Frames.{extent, frame_of, height, pixels, spot_in, width}

-- the spot of the point with this number
abbrev pub spot_at : List Spot → ℕ → Spot
spot_at spots u = slice_index_or spots u (record { x = 0; y = 0 })

abbrev pub spot_text : Spot → List ℕ
spot_text s = decimal s.x ++ codes " " ++ decimal s.y

-- a point: a line without length, whose round ends make a dot
abbrev pub dot : Spot → List ℕ
dot s = codes "M" ++ spot_text s ++ codes "h0"

-- a straight line from one spot to another
abbrev pub line_between : Spot → Spot → List ℕ
line_between s t = codes "M" ++ spot_text s ++ codes "L" ++ spot_text t

-- an edge, by its ends
abbrev pub stroke : List Spot → ℕ × ℕ → List ℕ
stroke spots s = line_between (spot_at spots s.0) (spot_at spots s.1)

-- a name with a value
unfoldable pub attribute : List ℕ → List ℕ → List ℕ
attribute name value = codes " " ++ name ++ codes "='" ++ value ++ codes "'"

-- what draws a path whose strokes no scale changes
abbrev pub path_start : List ℕ
path_start = codes "><path vector-effect='non-scaling-stroke' d='"

-- the first line of a layer: its name, its colour and the width of its strokes
unfoldable pub opening : List ℕ → List ℕ → ℕ → List ℕ
opening name colour thickness =
    codes "<g" ++ attribute (codes "id") name ++ attribute (codes "stroke") colour
    ++ attribute (codes "stroke-width") (decimal thickness) ++ path_start

-- its last line
unfoldable pub closing : List ℕ
closing = codes "'/></g>"

-- a layer: one group with one path, of which each line of the text is a part
abbrev pub layer : List ℕ → List ℕ → ℕ → List (List ℕ) → List (List ℕ)
layer name colour thickness parts = opening name colour thickness ∷ (parts ++ closing ∷ [])

-- the part of the plane that is seen: the frame and its margins
unfoldable pub view_box : Frame → List ℕ
view_box f = codes " viewBox='0 0 " ++ decimal (extent f (width f)) ++ codes " " ++ decimal (extent f (height f)) ++ codes "'"

-- the size on a screen, and the view box
unfoldable pub measures : Frame → List ℕ
measures f =
    attribute (codes "width") (decimal (pixels f (width f))) ++ attribute (codes "height") (decimal (pixels f (height f))) ++ view_box f

abbrev pub svg_start : List ℕ
svg_start = codes "<svg xmlns='http://www.w3.org/2000/svg' version='1.1'"

abbrev pub svg_style : List ℕ
svg_style = codes " fill='none' stroke-linecap='round' stroke-linejoin='round'>"

-- white, as far as the view box reaches
abbrev pub paper : List ℕ
paper = codes "<rect id='paper' width='100%' height='100%' fill='#fff'/>"

-- the lines before the layers
unfoldable pub head_lines : Frame → List (List ℕ)
head_lines f = (svg_start ++ measures f ++ svg_style) ∷ paper ∷ []

-- more than a thousand points leave no room for thick strokes
abbrev pub is_crowded : Report → Bool
is_crowded r = nat_lt 1000 (length r.points)

-- how wide strong strokes are, and dots
abbrev pub stroke_width : Report → ℕ
stroke_width r = if is_crowded r then 1 else 2

abbrev pub dot_width : Report → ℕ
dot_width r = if is_crowded r then 2 else 5

-- the live edges that are in neither of the other two, the triangulation, and the skeleton
abbrev pub edge_layers : List Spot → Report → List (List ℕ)
edge_layers spots r =
    layer (codes "live") (codes "#ccc") 1 (map (stroke spots) (other_edges r))
    ++ (layer (codes "triangulation") (codes "#37c") 1 (map (stroke spots) (edges_once (tri_sides r)))
    ++ layer (codes "skeleton") (codes "#222") (stroke_width r) (map (stroke spots) (skeleton_edges r)))

-- the hull, once round, and the points
abbrev pub point_layers : List Spot → Report → List (List ℕ)
point_layers spots r =
    layer (codes "hull") (codes "#c22") (stroke_width r) (codes "M" ∷ (map (λ u. spot_text (spot_at spots u)) r.hull ++ codes "z" ∷ []))
    ++ layer (codes "points") (codes "#000") (dot_width r) (map dot spots)

-- where the points of a report stand
abbrev pub spots_of : Report → List Spot
spots_of r = map (spot_in (frame_of r.points)) r.points

unfoldable pub picture_lines : Report → List (List ℕ)
picture_lines r =
    head_lines (frame_of r.points)
    ++ (edge_layers (spots_of r) r ++ (point_layers (spots_of r) r ++ codes "</svg>" ∷ []))

-- the text of the picture
abbrev pub picture_text : Report → List ℕ
picture_text r = lines_text (picture_lines r)
