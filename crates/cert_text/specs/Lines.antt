-- What each kind of line says, by its fields.
use Rattle.std.specs.Prelude.{◌≡◌, ℕ, ℤ, pos, ◌*◌, ◌^◌, Bool, true, false, ◌&&◌, List, ◌∷◌, Ok, Err, unsigned_abs, bytes_eq, codes, nat_lt, refl, ◌==◌, if◌then◌else◌}
use Rattle.std.proofs.lemmas.Bool.{ltb-true, eqb-false}
use Rattle.mwt_base.specs.Limits.{most_anchor, most_length, most_price}
use Rattle.exact_predicates.specs.declared.diamond.Diamond.{Diamond}
use Rattle.exact_predicates.specs.declared.diamond.Diamond.TheVariants.{On, Off}
use Rattle.exact_predicates.specs.declared.edge.Edge.{Edge}
use Rattle.exact_predicates.specs.declared.point.Point.{Point}
use Rattle.exact_predicates.specs.declared.tri.Tri.{Tri}
use Rattle.cert_text.specs.declared.found.Flaw.TheVariants.{NotSpelled, Outside}
use Rattle.cert_text.specs.declared.limits.Limits.{Limits}
use Rattle.cert_text.specs.declared.report.LineKind.{LineKind}
use Rattle.cert_text.specs.declared.report.LineKind.TheVariants.{Hull, Inner, Skeleton}
use Rattle.cert_text.specs.declared.report.Method.{Method}
use Rattle.cert_text.specs.declared.report.Method.TheVariants.{Flips, Faces}
use Rattle.cert_text.specs.declared.report.PriceLine.{PriceLine}
use Rattle.cert_text.specs.Cuts.{one, two, three, after}
use Rattle.cert_text.specs.Found.{◌>>=◌, Found, both}
use Rattle.cert_text.specs.Numbers.{number_in, coordinate_in, amount_within, amount_upto}

-- a point: its id and its coordinates
unfoldable pub point_in : List (List ℕ) → Found Point
point_in fields = do
  f ← three fields
  v ← both (both (number_in 0 (2 ^ 32) f.0) (coordinate_in f.1)) (coordinate_in f.2)
  Ok (record { id = v.0.0; x = v.0.1; y = v.1 })

-- the number of a point
abbrev pub index_in : Limits → List ℕ → Found ℕ
index_in limits text = number_in 0 limits.points text

-- a point of the hull
unfoldable pub hull_in : Limits → List (List ℕ) → Found ℕ
hull_in limits fields = one fields >>= index_in limits

-- an edge with these ends, where the first is the lesser
abbrev pub edge_when : (a b : ℕ) (rises : Bool) → nat_lt a b ≡ rises → Found Edge
edge_when a b true e = Ok (record { a = a; b = b; ascending = ltb-true a b e })
edge_when a b false e = Err Outside

unfoldable pub edge_of : ℕ × ℕ → Found Edge
edge_of v = edge_when v.0 v.1 (nat_lt v.0 v.1) refl

unfoldable pub ends_in : Limits → List ℕ → List ℕ → Found Edge
ends_in limits a b = both (index_in limits a) (index_in limits b) >>= edge_of

-- an edge
unfoldable pub edge_in : Limits → List (List ℕ) → Found Edge
edge_in limits fields = two fields >>= λ f. ends_in limits f.0 f.1

-- a triangle with these corners, where the first is the least and the others differ
abbrev pub tri_when :
    (a b c : ℕ) (to_b to_c same : Bool) → nat_lt a b ≡ to_b → nat_lt a c ≡ to_c → (b == c) ≡ same → Found Tri
tri_when a b c true true false e f g =
    Ok (record { a = a; b = b; c = c; below_b = ltb-true a b e; below_c = ltb-true a c f; apart = eqb-false b c g })
tri_when a b c _ _ _ e f g = Err Outside

unfoldable pub tri_of : ℕ × ℕ → ℕ → Found Tri
tri_of v c = tri_when v.0 v.1 c (nat_lt v.0 v.1) (nat_lt v.0 c) (v.1 == c) refl refl refl

-- a triangle
unfoldable pub tri_in : Limits → List (List ℕ) → Found Tri
tri_in limits fields = do
  f ← three fields
  v ← both (both (index_in limits f.0) (index_in limits f.1)) (index_in limits f.2)
  tri_of v.0 v.1

-- a live edge with one amount
abbrev pub one_amount : LineKind → Found Edge → Found ℤ → Found PriceLine
one_amount kind edge value =
    both edge value >>= λ v. Ok (record { edge = v.0; kind = kind; value = v.1; left = pos 0; right = pos 0 })

-- a live edge of the skeleton, with the anchors of its two sides
abbrev pub three_amounts : Found Edge → Found ℤ → Found ℤ → Found ℤ → Found PriceLine
three_amounts edge value left right =
    both (both (both edge value) left) right
    >>= λ v. Ok (record { edge = v.0.0.0; kind = Skeleton; value = v.0.0.1; left = v.0.1; right = v.1 })

-- a live edge; only version 2 has the kind s
unfoldable pub live_in : Limits → List (List ℕ) → Found PriceLine
live_in limits (a ∷ b ∷ kind ∷ amounts) =
    if bytes_eq kind (codes "h") then
    (one amounts >>= λ value. one_amount Hull (ends_in limits a b) (amount_upto most_anchor value))
    else if bytes_eq kind (codes "i") then
    (one amounts >>= λ value. one_amount Inner (ends_in limits a b) (amount_upto most_price value))
    else if limits.version == 2 && bytes_eq kind (codes "s") then
    (three amounts >>= λ v. three_amounts (ends_in limits a b) (amount_upto most_price v.0)
    (amount_within (pos 0) (pos most_anchor) v.1) (amount_within (pos 0) (pos most_anchor) v.2))
    else Err NotSpelled
live_in limits _ = Err NotSpelled

-- a word and a number
unfoldable pub count_in : List ℕ → ℕ → ℕ → List (List ℕ) → Found ℕ
count_in word low end fields = after word fields >>= number_in low end

abbrev pub diamond_of : List ℕ → Found Diamond
diamond_of word =
    if bytes_eq word (codes "on") then Ok On else if bytes_eq word (codes "off") then Ok Off else Err NotSpelled

unfoldable pub diamond_in : List (List ℕ) → Found Diamond
diamond_in fields = after (codes "diamond") fields >>= diamond_of

-- how the triangulation was found; only version 2 has the method faces
abbrev pub method_of : ℕ → List ℕ → Found Method
method_of version word =
    if bytes_eq word (codes "flips") then Ok Flips
    else if version == 2 && bytes_eq word (codes "faces") then Ok Faces
    else Err NotSpelled

unfoldable pub method_in : ℕ → List (List ℕ) → Found Method
method_in version fields = after (codes "method") fields >>= method_of version

abbrev pub length_end_in : List ℕ → Found ℤ
length_end_in text = amount_within (pos 0) (pos most_length) text

-- the two ends of an enclosure
unfoldable pub length_in : List (List ℕ) → Found (ℕ × ℕ)
length_in fields = three fields >>= λ f.
    if bytes_eq f.0 (codes "length") then
    (both (length_end_in f.1) (length_end_in f.2) >>= λ v. Ok (unsigned_abs v.0, unsigned_abs v.1))
    else Err NotSpelled

-- the most millionths of a bound and of a gap
abbrev pub most_bound : ℕ → ℕ
most_bound version = if version == 1 then 2 * 10 ^ 22 else 10 ^ 24

-- a word and an amount of at most this size
unfoldable pub amount_line_in : List ℕ → ℕ → List (List ℕ) → Found ℤ
amount_line_in word most fields = after word fields >>= amount_upto most

unfoldable pub end_in : List (List ℕ) → Found (Unit {0})
end_in fields = one fields >>= λ word. if bytes_eq word (codes "end") then Ok tt else Err NotSpelled
