-- After all sides have been raised the prices are tight.
use Rattle.std.proofs.Common.{◌≡◌, ℕ, ◌<◌, Bool, true, List, [], ◌∷◌, length, map, flat_map, Contains, ℤ, pos, refl, ap, sym, ◌∙◌, subst, ⊎_elim, inl, inr}
use Rattle.std.proofs.lemmas.List.{get_or_default, length-map}
use Rattle.exact_predicates.specs.declared.edge.Edge.{Edge}
use Rattle.exact_predicates.specs.Candidates.{EdgePrecedes}
use Rattle.exact_predicates.specs.Hull.{IsHullPair, ring_pairs}
use Rattle.exact_predicates.proofs.Equalities.{Joins-ends}
use Rattle.lmt_network.specs.Flags.{live_edges}
use Rattle.lmt_network.specs.Live.{IsHullEdge}
use Rattle.lmt_network.specs.Network.{NetworkParts, edge_at}
use Rattle.lmt_network.specs.Prices.{IsTight, IsTightSide, Priced, priced}
use Rattle.lmt_network.proofs.Picked.{AllPairs-picked, Contains-cases, Contains-here, Contains-later, Contains-nil, picked_from}
use Rattle.price_ascent.specs.declared.entry.PriceEntry.{PriceEntry}
use Rattle.price_ascent.specs.Ascent.{IsTighten, both_sides}
use Rattle.price_ascent.specs.Belonging.{AreEntriesOf, AreZeroWhereBare, IsBareSide}
use Rattle.price_ascent.specs.Entries.{anchored_edges, entry, live_of, no_entry, prices_of, table_of}
use Rattle.price_ascent.specs.Raised.{AreRaised, IsRaisedAlong, IsSettled}
use Rattle.price_ascent.proofs.Along.{IsFull}
use Rattle.price_ascent.proofs.Changed.{hull_of}
use Rattle.price_ascent.proofs.Ends.{hull_number_there}
use Rattle.price_ascent.proofs.Kept.{get_or-mapped, priced-kept}
use Rattle.price_ascent.proofs.Mixing.{along_tightens}
use Rattle.price_ascent.proofs.OnceEach.{AreOffHull}
use Rattle.price_ascent.proofs.Raised.{along_append}

-- all sides of the hull, and then all inner ones
pub record AreTightened (n : NetworkParts) (es fs gs : List PriceEntry) : Type 0 where
  pub entries : AreEntriesOf n es
  pub bare : AreZeroWhereBare n es
  pub hull : AreRaised n es fs (ring_pairs n.hull) []
  pub inner : AreRaised n fs gs (flat_map both_sides (anchored_edges n fs)) []

-- the number of an anchored edge
pub anchored-number : (n : NetworkParts) (es : List PriceEntry) (e : Edge) → Contains (anchored_edges n es) e → (k : ℕ) × (k < length n.edges) × (edge_at n k ≡ e) × ((entry es k).anchored ≡ true)
anchored-number n es e has =
    let r = picked_from (map (λ p. p.anchored) es) n.edges e has in
    (r.0, r.1, get_or_default n.edges r.0 _ e r.1 ∙ r.3, sym (get_or-mapped (λ (p : PriceEntry). p.anchored) es r.0 no_entry) ∙ r.2)

-- the table of prices that belong to a network has an entry an edge
pub full_table : (n : NetworkParts) (es : List PriceEntry) → AreEntriesOf n es → IsFull n (table_of es)
full_table n es b =
    record {
      values = length-map es (λ (p : PriceEntry). p.value) ∙ b.one_each;
      lefts = length-map es (λ (p : PriceEntry). p.left) ∙ b.one_each;
      rights = length-map es (λ (p : PriceEntry). p.right) ∙ b.one_each;
    }

-- the anchored edges are off the hull
off_hull : (n : NetworkParts) (es : List PriceEntry) → AreEntriesOf n es → AreOffHull n.hull (anchored_edges n es)
off_hull n es b f has hull =
    let k = anchored-number n es f has in
    ((b.each k.0 k.1).inner k.3).1 (subst (IsHullEdge n.hull) (sym k.2) hull)

-- the sides are raised in their order
pub tightened : (n : NetworkParts) (es fs gs : List PriceEntry) → AreTightened n es fs gs → IsTighten n (live_of es) (anchored_edges n es) (table_of es) (table_of gs)
tightened n es fs gs r =
    let first = r.hull.along (table_of fs) refl in
    let second = r.inner.along (table_of gs) refl in
    let same : anchored_edges n fs ≡ anchored_edges n es = ap (live_edges n) r.hull.anchored in
    along_tightens n (live_of es) (anchored_edges n es) (table_of es) (table_of gs) r.entries.network (full_table n es r.entries)
    (AllPairs-picked EdgePrecedes (map (λ p. p.anchored) es) n.edges r.entries.network.ascending) (off_hull n es r.entries)
    (along_append n (live_of es) (ring_pairs n.hull) (flat_map both_sides (anchored_edges n es)) (table_of es) (table_of fs) (table_of gs) first
    (subst (λ (xs : List Edge). IsRaisedAlong n (live_of es) (flat_map both_sides xs) (table_of fs) (table_of gs)) same
    (subst (λ (bs : List Bool). IsRaisedAlong n bs (flat_map both_sides (anchored_edges n fs)) (table_of fs) (table_of gs)) r.hull.live second)))

-- a settled side whose anchor is 0 where no live triangle is on it
tight_side : (n : NetworkParts) (es : List PriceEntry) (u v : ℕ) (y : ℤ) → IsSettled n es u v → (IsBareSide n.points (prices_of n es) u v → y ≡ pos 0)
    → IsTightSide n.points n.hull (prices_of n es) u v y
tight_side n es u v y (inl (t, on, zero)) bare = inl (t, on.0, on.1, zero)
tight_side n es u v y (inr none) bare = inr (λ t side over. none t (side, over), bare none)

-- the sides of an edge are among those of all
pub left_among : (xs : List Edge) (e : Edge) → Contains xs e → Contains (flat_map both_sides xs) (e.a, e.b)
left_among [] e h = absurd (Contains-nil e h)
left_among (x ∷ xs) e h =
    let rest = flat_map both_sides xs in
    ⊎_elim
    (λ (same : x ≡ e). subst (λ (y : Edge). Contains ((x.a, x.b) ∷ (x.b, x.a) ∷ rest) (y.a, y.b)) same (Contains-here (x.a, x.b) ((x.b, x.a) ∷ rest)))
    (λ (later : Contains xs e). Contains-later (x.a, x.b) (e.a, e.b) ((x.b, x.a) ∷ rest) (Contains-later (x.b, x.a) (e.a, e.b) rest (left_among xs e later)))
    (Contains-cases x e xs h)

pub right_among : (xs : List Edge) (e : Edge) → Contains xs e → Contains (flat_map both_sides xs) (e.b, e.a)
right_among [] e h = absurd (Contains-nil e h)
right_among (x ∷ xs) e h =
    let rest = flat_map both_sides xs in
    ⊎_elim
    (λ (same : x ≡ e). subst (λ (y : Edge). Contains ((x.a, x.b) ∷ (x.b, x.a) ∷ rest) (y.b, y.a)) same
    (Contains-later (x.a, x.b) (x.b, x.a) ((x.b, x.a) ∷ rest) (Contains-here (x.b, x.a) rest)))
    (λ (later : Contains xs e). Contains-later (x.a, x.b) (e.b, e.a) ((x.b, x.a) ∷ rest) (Contains-later (x.b, x.a) (e.b, e.a) rest (right_among xs e later)))
    (Contains-cases x e xs h)

-- the anchors of an anchored edge
left_zero : (n : NetworkParts) (es : List PriceEntry) (k : ℕ) → AreEntriesOf n es → AreZeroWhereBare n es → k < length n.edges → (entry es k).anchored ≡ true
    → IsBareSide n.points (prices_of n es) (edge_at n k).a (edge_at n k).b → (priced (prices_of n es) (edge_at n k).a (edge_at n k).b).left ≡ pos 0
left_zero n es k b z k_in anchored bare =
    let h = b.each k k_in in
    ap (λ (p : Priced). p.left) (priced-kept n es k _ _ b.network b.one_each (h.inner anchored).0 (k_in, Joins-ends (edge_at n k))) ∙ (z k k_in).left bare

right_zero : (n : NetworkParts) (es : List PriceEntry) (k : ℕ) → AreEntriesOf n es → AreZeroWhereBare n es → k < length n.edges → (entry es k).anchored ≡ true
    → IsBareSide n.points (prices_of n es) (edge_at n k).b (edge_at n k).a → (priced (prices_of n es) (edge_at n k).a (edge_at n k).b).right ≡ pos 0
right_zero n es k b z k_in anchored bare =
    let h = b.each k k_in in
    ap (λ (p : Priced). p.right) (priced-kept n es k _ _ b.network b.one_each (h.inner anchored).0 (k_in, Joins-ends (edge_at n k))) ∙ (z k k_in).right bare

hull_zero : (n : NetworkParts) (es : List PriceEntry) (u v : ℕ) → AreEntriesOf n es → AreZeroWhereBare n es → IsHullPair n.hull u v → IsBareSide n.points (prices_of n es) u v → (priced (prices_of n es) u v).value ≡ pos 0
hull_zero n es u v b z pair bare =
    let k = hull_number_there n u v b.network pair in
    let h = b.each k.0 k.1.0 in
    ap (λ (p : Priced). p.value) (priced-kept n es k.0 u v b.network b.one_each (h.hull_live (hull_of n k.0 u v k.1 pair)) k.1) ∙ (z k.0 k.1.0).hull u v k.1 pair bare

-- the prices are tight
pub tight : (n : NetworkParts) (es fs gs : List PriceEntry) → AreTightened n es fs gs → IsTight n.points n.hull (anchored_edges n gs) (prices_of n gs)
tight n es fs gs r =
    let b = r.inner.entries in
    let z = r.inner.bare (r.hull.bare r.bare) in
    let back : anchored_edges n gs ≡ anchored_edges n fs = ap (live_edges n) r.inner.anchored in
    record {
      hull_sides = λ u v pair. tight_side n gs u v _ (⊎_elim (λ none. absurd (Contains-nil (u, v) none)) (λ s. r.inner.keeps u v s) (r.hull.settled u v pair)) (hull_zero n gs u v b z pair);
      lefts = λ e has.
          let k = anchored-number n gs e has in
          tight_side n gs e.a e.b _
          (⊎_elim (λ none. absurd (Contains-nil (e.a, e.b) none)) (λ s. s) (r.inner.settled e.a e.b (left_among (anchored_edges n fs) e (subst (λ (xs : List Edge). Contains xs e) back has))))
          (subst (λ (x : Edge). IsBareSide n.points (prices_of n gs) x.a x.b → (priced (prices_of n gs) x.a x.b).left ≡ pos 0) k.2 (left_zero n gs k.0 b z k.1 k.3));
      rights = λ e has.
          let k = anchored-number n gs e has in
          tight_side n gs e.b e.a _
          (⊎_elim (λ none. absurd (Contains-nil (e.b, e.a) none)) (λ s. s) (r.inner.settled e.b e.a (right_among (anchored_edges n fs) e (subst (λ (xs : List Edge). Contains xs e) back has))))
          (subst (λ (x : Edge). IsBareSide n.points (prices_of n gs) x.b x.a → (priced (prices_of n gs) x.a x.b).right ≡ pos 0) k.2 (right_zero n gs k.0 b z k.1 k.3));
    }
