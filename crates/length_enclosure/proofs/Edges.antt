-- What is counted as a list of edges grows.
use Rattle.std.proofs.Common.{◌≡◌, ℕ, ◌+◌, ◌*◌, ◌<◌, ◌≤◌, Bool, true, false, not, cond, Decides, List, [], ◌∷◌, ◌++◌, length, get_or, slice_index, take, filter, arith, ap, sym, ◌∙◌, append_assoc, pos, subst, ⊎_elim}
use Rattle.std.specs.List.{HoldsAt}
use Rattle.std.proofs.lemmas.Bool.{cases_Bool}
use Rattle.std.proofs.lemmas.Bool.Decides.{same_from_decides}
use Rattle.std.proofs.lemmas.List.{take_more, take_all, length-append}
use Rattle.std.proofs.lemmas.List.Concat.{flat_map-append}
use Rattle.std.proofs.lemmas.List.Sums.{sum_by-append, length-filter, count_by-le-length}
use Rattle.std.proofs.lemmas.List.Elements.{filter-append}
use Rattle.exact_predicates.specs.declared.point.Point.{Point}
use Rattle.exact_predicates.specs.declared.tri.Tri.{Tri}
use Rattle.exact_predicates.specs.Root.{is_square}
use Rattle.exact_predicates.specs.Length.{edge_d2, IsAtLeast, IsAtMost}
use Rattle.exact_predicates.specs.Hull.{ring_pairs}
use Rattle.exact_predicates.specs.Triangulation.{sides, is_inner, edges}
use Rattle.exact_predicates.proofs.Rings.{length-ring}
use Rattle.exact_predicates.proofs.Roots.{is_square_decides}
use Rattle.length_enclosure.specs.declared.ends.Enclosure.{Enclosure}
use Rattle.length_enclosure.proofs.Enclosures.{IsAtLeast-lo, IsAtMost-hi}
use Rattle.length_enclosure.specs.Enclosure.{weight, lo, hi, IsEnclosure, IsLonger}

-- one more edge, which is a whole number of units long or not
pub hi_edge : (ps : List Point) (e : ℕ × ℕ) (whole : Bool) → Decides whole ((r : ℕ) × (r * r ≡ edge_d2 ps e)) → hi ps (e ∷ []) ≡ weight ps e + cond whole 0 1
hi_edge ps e whole d =
    let same : whole ≡ is_square (edge_d2 ps e) = same_from_decides _ _ d (is_square_decides (edge_d2 ps e)) in
    ⊎_elim
    (λ yes. let s : is_square (edge_d2 ps e) ≡ true = sym same ∙ yes in rw (yes, s) (omega arith))
    (λ no. let s : is_square (edge_d2 ps e) ≡ false = sym same ∙ no in rw (no, s) (omega arith))
    (cases_Bool whole)

-- edges more
lo-append : (ps : List Point) (es fs : List (ℕ × ℕ)) → lo ps (es ++ fs) ≡ lo ps es + lo ps fs
lo-append ps es fs = sum_by-append (weight ps) es fs

hi-append : (ps : List Point) (es fs : List (ℕ × ℕ)) → hi ps (es ++ fs) ≡ hi ps es + hi ps fs
hi-append ps es fs =
    omega (arith, lo-append ps es fs, sum_by-append (λ e. cond (not (is_square (edge_d2 ps e))) 1 0) es fs)

-- a triangle's sides more
pub edges_more : (hull : List ℕ) (tris : List Tri) (i : ℕ) (t : Tri) → i < length tris
    → edges hull (take (i + 1) tris) ≡ edges hull (take i tris) ++ filter (is_inner hull) (sides (get_or tris i t))
edges_more hull tris i t i_in =
    rw (take_more tris i t i_in, flat_map-append sides (take i tris) (get_or tris i t ∷ []), filter-append (is_inner hull))
    (simp append_assoc)

-- at most three edges more
pub inner_sides : (hull : List ℕ) (t : Tri) → length (filter (is_inner hull) (sides t))
    ≡ length (filter (is_inner hull) ((t.a, t.b) ∷ [])) + length (filter (is_inner hull) ((t.b, t.c) ∷ [])) + length (filter (is_inner hull) ((t.c, t.a) ∷ []))
inner_sides hull t =
    let p = is_inner hull in
    omega (
      arith,
      length-filter p (sides t),
      length-filter p ((t.a, t.b) ∷ []),
      length-filter p ((t.b, t.c) ∷ []),
      length-filter p ((t.c, t.a) ∷ []),
    )

pub length-inner_sides : (hull : List ℕ) (t : Tri) → length (filter (is_inner hull) (sides t)) ≤ 3
length-inner_sides hull t = let few = count_by-le-length (is_inner hull) (sides t) in omega (arith, length-filter (is_inner hull) (sides t))

pub length-edges_none : (hull : List ℕ) (tris : List Tri) → length (edges hull (take 0 tris)) ≡ length hull
length-edges_none hull tris = omega (arith, length-append (ring_pairs hull) [], length-ring hull)

pub length-edges_more : (hull : List ℕ) (tris : List Tri) (i : ℕ) (t : Tri) → i < length tris → get_or tris i t ≡ t
    → length (edges hull (take (i + 1) tris)) ≡ length (edges hull (take i tris)) + length (filter (is_inner hull) (sides t))
length-edges_more hull tris i t inside at =
    ap length (edges_more hull tris i t inside ∙ ap (λ u. edges hull (take i tris) ++ filter (is_inner hull) (sides u)) at)
    ∙ length-append (edges hull (take i tris)) (filter (is_inner hull) (sides t))

pub IsEnclosure-longer : (ps : List Point) (es fs : List (ℕ × ℕ)) (a b : Enclosure) → IsEnclosure ps es a → IsLonger ps fs a b → IsEnclosure ps (es ++ fs) b
IsEnclosure-longer ps es fs a b h k =
    record { lower = omega (arith, lo-append ps es fs, h.lower, k.lower); upper = omega (arith, hi-append ps es fs, h.upper, k.upper) }

-- a pair of the hull more
pub IsEnclosure-pair : (ps : List Point) (hull : List ℕ) (k v : ℕ) (a b : Enclosure) → k < length hull → HoldsAt (λ s. s ≡ (slice_index hull k, v)) (ring_pairs hull) k
    → IsEnclosure ps (take k (ring_pairs hull)) a → IsLonger ps ((slice_index hull k, v) ∷ []) a b → IsEnclosure ps (take (k + 1) (ring_pairs hull)) b
IsEnclosure-pair ps hull k v a b k_in next h more =
    let n = length-ring hull in
    let e = take_more (ring_pairs hull) k (0, 0) (omega arith) in
    let f = next (0, 0) in
    rw (e, f) (IsEnclosure-longer ps (take k (ring_pairs hull)) ((slice_index hull k, v) ∷ []) a b h more)

-- a triangle more
pub IsEnclosure-triangle : (ps : List Point) (hull : List ℕ) (tris : List Tri) (i : ℕ) (t : Tri) (a b : Enclosure) → i < length tris → get_or tris i t ≡ t
    → IsEnclosure ps (edges hull (take i tris)) a → IsLonger ps (filter (is_inner hull) (sides t)) a b → IsEnclosure ps (edges hull (take (i + 1) tris)) b
IsEnclosure-triangle ps hull tris i t a b i_in at_i h more =
    rw (edges_more hull tris i t i_in, at_i) (IsEnclosure-longer ps (edges hull (take i tris)) (filter (is_inner hull) (sides t)) a b h more)

-- and all of them
pub IsEnclosure-all : (ps : List Point) (hull : List ℕ) (tris : List Tri) (i : ℕ) (a : Enclosure) → length tris ≤ i
    → IsEnclosure ps (edges hull (take i tris)) a → IsEnclosure ps (edges hull tris) a
IsEnclosure-all ps hull tris i a i_end h = rw (take_all i tris i_end) at h

-- the length lies between the two ends
pub IsAtLeast-ends : (ps : List Point) (es : List (ℕ × ℕ)) (a : Enclosure) → IsEnclosure ps es a → IsAtLeast ps es (pos a.lo)
IsAtLeast-ends ps es a h = subst (λ x. IsAtLeast ps es (pos x)) (sym h.lower) (IsAtLeast-lo ps es)

pub IsAtMost-ends : (ps : List Point) (es : List (ℕ × ℕ)) (a : Enclosure) → IsEnclosure ps es a → IsAtMost ps es a.hi
IsAtMost-ends ps es a h = subst (λ x. IsAtMost ps es x) (sym h.upper) (IsAtMost-hi ps es)

-- in their order
pub ends_ordered : (ps : List Point) (es : List (ℕ × ℕ)) (a : Enclosure) → IsEnclosure ps es a → a.lo ≤ a.hi
ends_ordered ps es a h = omega (arith, h.lower, h.upper)
