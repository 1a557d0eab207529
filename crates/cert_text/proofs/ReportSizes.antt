-- How long the text of a report is.
use Rattle.std.proofs.Common.{◌≡◌, ◌⊎◌, ℕ, ℤ, pos, negsuc, ◌+◌, ◌*◌, ◌^◌, ◌<◌, ◌≤◌, List, [], ◌∷◌, ◌++◌, length, inl, inr, arith, decimal, codes}
use Rattle.std.specs.Prelude.{unsigned_abs}
use Rattle.std.proofs.lemmas.Int.{ints}
use Rattle.mwt_base.specs.Limits.{most_amount, most_anchor, most_bytes, most_coordinate, most_edges, most_length, most_points, most_price, most_tiles, most_unit}
use Rattle.exact_predicates.specs.declared.diamond.Diamond.{Diamond}
use Rattle.exact_predicates.specs.declared.diamond.Diamond.TheVariants.{On, Off}
use Rattle.exact_predicates.specs.declared.edge.Edge.{Edge}
use Rattle.exact_predicates.specs.declared.point.Point.{Point}
use Rattle.exact_predicates.specs.declared.tri.Tri.{Tri}
use Rattle.cert_text.specs.declared.report.LineKind.{LineKind}
use Rattle.cert_text.specs.declared.report.LineKind.TheVariants.{Hull, Inner, Skeleton}
use Rattle.cert_text.specs.declared.report.Method.{Method}
use Rattle.cert_text.specs.declared.report.Method.TheVariants.{Flips, Faces}
use Rattle.cert_text.specs.declared.report.PriceLine.{PriceLine}
use Rattle.cert_text.specs.declared.report.Report.{Report}
use Rattle.length_enclosure.specs.Amount.{amount}
use Rattle.cert_text.specs.Lines.{most_bound}
use Rattle.cert_text.specs.Texts.{spaced, lines_text, point_fields, hull_fields, edge_fields, tri_fields, price_fields, live_fields, count_line, block, diamond_word, method_word, head_lines, tail_lines, report_lines, report_text}
use Rattle.cert_text.specs.Within.{IsWithin, IsBetween, IsUpto, IsPointRow, IsHullRow, IsEdgeRow, IsTriRow, ArePrices, IsLiveRow}
use Rattle.cert_text.proofs.Ends.{bound_small}
use Rattle.cert_text.proofs.FieldTexts.{between_size}
use Rattle.cert_text.proofs.Sizes.{width, number_short, index_short, coordinate_short, amount_short, price_short, anchor_short, side_short, text_length, first_short, block_short}

point_short : (p : Point) → IsPointRow p → width (point_fields p) ≤ 35
point_short p h =
    let i = number_short p.id h.id in
    let x = coordinate_short p.x (between_size most_coordinate p.x (record { least = h.place.left; most = h.place.right })) in
    let y = coordinate_short p.y (between_size most_coordinate p.y (record { least = h.place.low; most = h.place.high })) in
    omega (arith, i, x, y)

hull_short : (points : ℕ) → points ≤ 10 ^ 4 → (u : ℕ) → IsHullRow points u → width (hull_fields u) ≤ 5
hull_short points few u h = let l = index_short u (omega arith) in omega (arith, l)

edge_width : (points : ℕ) → points ≤ 10 ^ 4 → (e : Edge) → IsEdgeRow points e → (length (decimal e.a) ≤ 4) × (length (decimal e.b) ≤ 4)
edge_width points few e h = let rises = e.ascending in (index_short e.a (omega arith), index_short e.b (omega arith))

edge_short : (points : ℕ) → points ≤ 10 ^ 4 → (e : Edge) → IsEdgeRow points e → width (edge_fields e) ≤ 10
edge_short points few e h = let w = edge_width points few e h in let a = w.0 in let b = w.1 in omega (arith, a, b)

tri_short : (points : ℕ) → points ≤ 10 ^ 4 → (t : Tri) → IsTriRow points t → width (tri_fields t) ≤ 15
tri_short points few t h =
    let rises = t.below_b in
    let in_b = h.b in
    let in_c = h.c in
    let a = index_short t.a (omega arith) in
    let b = index_short t.b (omega arith) in
    let c = index_short t.c (omega arith) in
    omega (arith, a, b, c)

between_short : (n : ℤ) → IsBetween (pos 0) (pos most_anchor) n → length (amount n) ≤ 20
between_short (pos n) h = let m = h.most in side_short n (omega (arith, ints))
between_short (negsuc n) h = absurd (let l = h.least in omega (arith, ints))

prices_short : (version : ℕ) (kind : LineKind) (value left right : ℤ) → ArePrices version kind value left right → width (price_fields kind value left right) ≤ 65
prices_short version Hull value left right h = let v = anchor_short value (between_size most_anchor value h.0) in omega (arith, v)
prices_short version Inner value left right h = let v = price_short value (between_size most_price value h.0) in omega (arith, v)
prices_short version Skeleton value left right h =
    let v = price_short value (between_size most_price value h.1) in
    let l = between_short left h.2 in
    let r = between_short right h.3 in
    omega (arith, v, l, r)

live_short : (version points : ℕ) → points ≤ 10 ^ 4 → (l : PriceLine) → IsLiveRow version points l → width (live_fields l) ≤ 75
live_short version points few l h =
    let w = edge_width points few l.edge h.edge in
    let a = w.0 in
    let b = w.1 in
    let p = prices_short version l.kind l.value l.left l.right h.prices in
    omega (arith, a, b, p)

diamond_short : (d : Diamond) → length (diamond_word d) ≤ 3
diamond_short On = omega arith
diamond_short Off = omega arith

method_short : (m : Method) → length (method_word m) ≤ 5
method_short Flips = omega arith
method_short Faces = omega arith

count_short : (word : List ℕ) (n : ℕ) → length word ≤ 20 → n < 2 ^ 32 → width (word ∷ decimal n ∷ []) ≤ 120
count_short word n few h = let l = number_short n h in omega (arith, l)

version_low : (v : ℕ) → (v ≡ 1) ⊎ (v ≡ 2) → v < 2 ^ 32
version_low v (inl e) = omega arith
version_low v (inr e) = omega arith

unit_low : (u : ℕ) → u ≤ most_unit → u < 2 ^ 32
unit_low u h = omega arith

-- lines of at most 120 bytes each
record AreShort (lines : List (List ℕ)) (count : ℕ) : Type 0 where
  is : length (lines_text lines) ≤ 121 * count

none_short : AreShort [] 0
none_short = record { is = omega arith }

more_short : {lines : List (List ℕ)} {count : ℕ} (fs : List (List ℕ)) → width fs ≤ 120 → AreShort lines count → AreShort (spaced fs ∷ lines) (count + 1)
more_short {lines = lines} {count = count} fs h others = let first = first_short fs lines (121 * count) h others.is in record { is = omega (arith, first) }

head_short : (r : Report) → IsWithin r → AreShort (head_lines r) (0 + 1 + 1 + 1 + 1)
head_short r is =
    more_short (codes "mwt" ∷ decimal r.version ∷ []) (count_short (codes "mwt") r.version (omega arith) (version_low r.version is.version))
    (more_short (codes "diamond" ∷ diamond_word r.diamond ∷ []) (two_words r.diamond)
    (more_short (codes "unit" ∷ decimal r.unit ∷ []) (count_short (codes "unit") r.unit (omega arith) (unit_low r.unit is.unit))
    (more_short (codes "merged" ∷ decimal r.merged ∷ []) (count_short (codes "merged") r.merged (omega arith) is.merged) none_short))) where
      two_words : (d : Diamond) → width (codes "diamond" ∷ diamond_word d ∷ []) ≤ 120
      two_words d = let w = diamond_short d in omega (arith, w)

ends_short : (lo hi : ℕ) → lo ≤ most_length → hi ≤ most_length → width (codes "length" ∷ amount (pos lo) ∷ amount (pos hi) ∷ []) ≤ 120
ends_short lo hi l h =
    let a = amount_short (pos lo) (omega arith) in
    let b = amount_short (pos hi) (omega arith) in
    omega (arith, a, b)

bound_short : (version : ℕ) (word : List ℕ) (n : ℤ) → length word ≤ 20 → IsUpto (most_bound version) n → width (word ∷ amount n ∷ []) ≤ 120
bound_short version word n few h = go (between_size (most_bound version) n h) (bound_small version) where
  go : unsigned_abs n ≤ most_bound version → most_bound version ≤ most_amount → width (word ∷ amount n ∷ []) ≤ 120
  go low small = let a = amount_short n (omega arith) in omega (arith, a)

last_short : width (codes "end" ∷ []) ≤ 120
last_short = omega arith

tail_short : (r : Report) → IsWithin r → AreShort (tail_lines r) (0 + 1 + 1 + 1 + 1 + 1)
tail_short r is =
    more_short (codes "method" ∷ method_word r.method ∷ []) (two_words r.method)
    (more_short (codes "length" ∷ amount (pos r.lo) ∷ amount (pos r.hi) ∷ []) (ends_short r.lo r.hi is.lo is.hi)
    (more_short (codes "bound" ∷ amount r.bound ∷ []) (bound_short r.version (codes "bound") r.bound (omega arith) is.bound)
    (more_short (codes "gap" ∷ amount r.gap ∷ []) (bound_short r.version (codes "gap") r.gap (omega arith) is.gap)
    (more_short (codes "end" ∷ []) last_short none_short)))) where
      two_words : (m : Method) → width (codes "method" ∷ method_word m ∷ []) ≤ 120
      two_words m = let w = method_short m in omega (arith, w)

-- the sum of the parts
sum_short : (all head points hull candidates live skeleton tris tail p u l s t : ℕ) → all ≡ head + ((points + (hull + candidates)) + ((live + (skeleton + tris)) + tail))
    → head ≤ 121 * 4 → points ≤ 121 + 36 * p → hull ≤ 121 + 6 * u → candidates ≤ 121 * 1 → live ≤ 121 + 76 * l → skeleton ≤ 121 + 11 * s → tris ≤ 121 + 16 * t → tail ≤ 121 * 5
    → p ≤ most_points → u ≤ most_points → l ≤ most_edges → s ≤ most_edges → t ≤ most_tiles → all < 36 * 10 ^ 6
sum_short all head points hull candidates live skeleton tris tail p u l s t e h1 h2 h3 h4 h5 h6 h7 h8 hp hu hl hs ht = omega arith

counts_low : (p u l s t c : ℕ) → p < most_points + 1 → u < p + 1 → l ≤ most_edges → s ≤ most_edges → t ≤ most_tiles → c ≤ most_edges
    → (p < 2 ^ 32) × (u < 2 ^ 32) × (l < 2 ^ 32) × (s < 2 ^ 32) × (t < 2 ^ 32) × (c < 2 ^ 32) × (p ≤ most_points) × (u ≤ most_points)
counts_low p u l s t c hp hu hl hs ht hc = (omega arith, omega arith, omega arith, omega arith, omega arith, omega arith, omega arith, omega arith)

pub text_short : (r : Report) → IsWithin r → length (report_text r) < 36 * 10 ^ 6
unfolding report_lines
text_short r is =
    let few = counts_low (length r.points) (length r.hull) (length r.live) (length r.skeleton) (length r.tris) r.candidates
    is.points_count.most is.hull_count.most is.live_count is.skeleton_count is.tris_count is.candidates in
    let points = block (codes "points") point_fields r.points in
    let hull = block (codes "hull") hull_fields r.hull in
    let candidates = count_line (codes "candidates") r.candidates ∷ [] in
    let live = block (codes "live") live_fields r.live in
    let skeleton = block (codes "skeleton") edge_fields r.skeleton in
    let tris = block (codes "triangles") tri_fields r.tris in
    let text = parts (head_lines r) points hull candidates live skeleton tris (tail_lines r) in
    sum_short _ _ _ _ _ _ _ _ _ (length r.points) (length r.hull) (length r.live) (length r.skeleton) (length r.tris) text
    (head_short r is).is
    (block_short (codes "points") point_fields IsPointRow 35 (omega arith) point_short r.points few.0 is.points)
    (block_short (codes "hull") hull_fields (IsHullRow (length r.points)) 5 (omega arith) (hull_short (length r.points) few.6) r.hull few.1 is.hull)
    (more_short (codes "candidates" ∷ decimal r.candidates ∷ []) (count_short (codes "candidates") r.candidates (omega arith) few.5) none_short).is
    (block_short (codes "live") live_fields (IsLiveRow r.version (length r.points)) 75 (omega arith) (live_short r.version (length r.points) few.6) r.live few.2 is.live)
    (block_short (codes "skeleton") edge_fields (IsEdgeRow (length r.points)) 10 (omega arith) (edge_short (length r.points) few.6) r.skeleton few.3 is.skeleton)
    (block_short (codes "triangles") tri_fields (IsTriRow (length r.points)) 15 (omega arith) (tri_short (length r.points) few.6) r.tris few.4 is.tris)
    (tail_short r is).is
    few.6 few.7 is.live_count is.skeleton_count is.tris_count where
      parts : (h p u c l s t z : List (List ℕ))
          → length (lines_text (h ++ ((p ++ (u ++ c)) ++ ((l ++ (s ++ t)) ++ z))))
          ≡ length (lines_text h) + ((length (lines_text p) + (length (lines_text u) + length (lines_text c)))
          + ((length (lines_text l) + (length (lines_text s) + length (lines_text t))) + length (lines_text z)))
      parts h p u c l s t z =
          let a = text_length h ((p ++ (u ++ c)) ++ ((l ++ (s ++ t)) ++ z)) in
          let b = text_length (p ++ (u ++ c)) ((l ++ (s ++ t)) ++ z) in
          let d = text_length p (u ++ c) in
          let e = text_length u c in
          let f = text_length (l ++ (s ++ t)) z in
          let g = text_length l (s ++ t) in
          let i = text_length s t in
          omega (arith, a, b, d, e, f, g, i)

-- so it is within the limit on input
pub report_short : (r : Report) → IsWithin r → length (report_text r) ≤ most_bytes
report_short r is = let short = text_short r is in omega (arith, short)
