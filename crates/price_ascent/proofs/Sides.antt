-- The sides with an anchor, one after the other.
use Rattle.std.proofs.Common.{◌≡◌, ℕ, ◌+◌, ◌<◌, ◌≤◌, Bool, true, false, List, [], ◌∷◌, length, get_or, map, drop, flat_map, slice_index, refl, ap, sym, ◌∙◌, arith}
use Rattle.std.specs.List.{items_where_true}
use Rattle.std.proofs.lemmas.List.{drop_all, drop_more, length-map}
use Rattle.exact_predicates.specs.Hull.{ring_pairs}
use Rattle.exact_predicates.proofs.Rings.{IsNext, length-ring, pair_at}
use Rattle.lmt_network.specs.Network.{NetworkParts, edge_at}
use Rattle.price_ascent.specs.declared.entry.PriceEntry.{PriceEntry}
use Rattle.price_ascent.specs.Ascent.{both_sides}
use Rattle.price_ascent.specs.Entries.{entry, no_entry}
use Rattle.price_ascent.specs.Raised.{sides_from}
use Rattle.price_ascent.proofs.Kept.{get_or-mapped}

-- the pairs of the hull from a place on
pub next_pair : (hull : List ℕ) (i v : ℕ) → i < length hull → IsNext hull i v → drop i (ring_pairs hull) ≡ (slice_index hull i, v) ∷ drop (i + 1) (ring_pairs hull)
next_pair hull i v i_in next =
    drop_more (ring_pairs hull) i (0, 0) (let many = length-ring hull in omega arith)
    ∙ ap (λ s. s ∷ drop (i + 1) (ring_pairs hull)) (pair_at hull (slice_index hull i) v i (0, 0) i_in refl next)

pub no_pair : (hull : List ℕ) (i : ℕ) → length hull ≤ i → drop i (ring_pairs hull) ≡ []
no_pair hull i past = drop_all i (ring_pairs hull) (let many = length-ring hull in omega arith)

-- the sides of inner edges from an edge on
sides_from-at : (n : NetworkParts) (es : List PriceEntry) (e : ℕ) (b : Bool) → length es ≡ length n.edges → e < length n.edges → (entry es e).anchored ≡ b
    → sides_from n es e ≡ flat_map both_sides (items_where_true (b ∷ drop (e + 1) (map (λ p. p.anchored) es)) (edge_at n e ∷ drop (e + 1) n.edges))
sides_from-at n es e b one_each e_in is =
    let flags = map (λ (p : PriceEntry). p.anchored) es in
    let many : length flags ≡ length es = length-map es (λ (p : PriceEntry). p.anchored) in
    let flag : drop e flags ≡ b ∷ drop (e + 1) flags
    = drop_more flags e false (omega arith) ∙ ap (λ x. x ∷ drop (e + 1) flags) (get_or-mapped (λ (p : PriceEntry). p.anchored) es e no_entry ∙ is) in
    ap (λ bs. flat_map both_sides (items_where_true bs (drop e n.edges))) flag
    ∙ ap (λ xs. flat_map both_sides (items_where_true (b ∷ drop (e + 1) flags) xs)) (drop_more n.edges e _ e_in)

pub sides_from-more : (n : NetworkParts) (es : List PriceEntry) (e : ℕ) → length es ≡ length n.edges → e < length n.edges → (entry es e).anchored ≡ true
    → sides_from n es e ≡ ((edge_at n e).a, (edge_at n e).b) ∷ ((edge_at n e).b, (edge_at n e).a) ∷ sides_from n es (e + 1)
sides_from-more n es e one_each e_in is = sides_from-at n es e true one_each e_in is

pub sides_from-skip : (n : NetworkParts) (es : List PriceEntry) (e : ℕ) → length es ≡ length n.edges → e < length n.edges → (entry es e).anchored ≡ false → sides_from n es e ≡ sides_from n es (e + 1)
sides_from-skip n es e one_each e_in is = sides_from-at n es e false one_each e_in is

pub sides_from-none : (n : NetworkParts) (es : List PriceEntry) (e : ℕ) → length n.edges ≤ e → sides_from n es e ≡ []
sides_from-none n es e past =
    ap (λ xs. flat_map both_sides (items_where_true (drop e (map (λ p. p.anchored) es)) xs)) (drop_all e n.edges past) ∙ nothing (drop e (map (λ p. p.anchored) es))
  where
    nothing : (bs : List Bool) → flat_map both_sides (items_where_true bs []) ≡ []
    nothing [] = refl
    nothing (b ∷ bs) = refl

-- whether an edge is anchored stays
pub anchored-at : (fs es : List PriceEntry) (e : ℕ) → map (λ p. p.anchored) fs ≡ map (λ p. p.anchored) es → (entry fs e).anchored ≡ (entry es e).anchored
anchored-at fs es e same =
    sym (get_or-mapped (λ (p : PriceEntry). p.anchored) fs e no_entry) ∙ (ap (λ bs. get_or bs e false) same ∙ get_or-mapped (λ (p : PriceEntry). p.anchored) es e no_entry)
