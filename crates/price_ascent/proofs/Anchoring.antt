-- Edges that are given anchors.
use Rattle.std.proofs.Common.{◌≡◌, ◌≢◌, ℕ, ◌<◌, Bool, true, false, List, ◌∷◌, [], ◌++◌, length, map, set, Contains, refl, ap, sym, ◌∙◌, subst, arith, ⊎_elim}
use Rattle.std.proofs.lemmas.Bool.{cases_eq, false≢true}
use Rattle.std.proofs.lemmas.Int.{ints}
use Rattle.std.proofs.lemmas.List.{get_or_default}
use Rattle.std.proofs.lemmas.List.Elements.{Contains-append_left, Contains-push, Contains-push_cases}
use Rattle.exact_predicates.specs.declared.edge.Edge.{Edge}
use Rattle.exact_predicates.specs.Candidates.{Joins}
use Rattle.exact_predicates.proofs.Equalities.{Edge-equal, Joins-ends}
use Rattle.lmt_network.specs.Flags.{live_edges}
use Rattle.lmt_network.specs.Live.{IsHullEdge}
use Rattle.lmt_network.specs.Network.{NetworkParts, edge_at}
use Rattle.lmt_network.specs.Numbers.{IsHullNumber, IsNumberOf}
use Rattle.lmt_network.specs.Prices.{IsFeasible, Priced}
use Rattle.lmt_network.specs.PriceTables.{PriceTable, table_prices}
use Rattle.lmt_network.specs.Flags.{live_numbers}
use Rattle.lmt_network.proofs.Naming.{edge_at-once}
use Rattle.lmt_network.proofs.Picked.{picked_from, picked_in}
use Rattle.price_ascent.specs.declared.entry.PriceEntry.{PriceEntry}
use Rattle.price_ascent.specs.Ascent.{value_at}
use Rattle.price_ascent.specs.Belonging.{BelongTo, IsEntryOf, IsZeroWhereBare}
use Rattle.price_ascent.specs.Entries.{anchored_edges, entry, live_of, no_entry, prices_of, table_of}
use Rattle.price_ascent.specs.Steps.{anchored}
use Rattle.price_ascent.proofs.Changed.{IsChange, bare_changed, entries_changed, live_same, new_entry, other_entry}
use Rattle.price_ascent.proofs.Ends.{ends_up}
use Rattle.price_ascent.proofs.Kept.{get_or-mapped, live_at, same_table, value_is}
use Rattle.price_ascent.proofs.Narrow.{belong_kept}
use Rattle.price_ascent.proofs.RaisedSides.{field_kept}
use Rattle.price_ascent.proofs.Tightness.{anchored-number}

-- the prices stay
pub anchored-table : (es : List PriceEntry) (e : ℕ) → table_of (set es e (anchored (entry es e))) ≡ table_of es
anchored-table es e =
    let x = anchored (entry es e) in
    same_table _ _ _ _ _ _ (field_kept es e x (λ q. q.value) refl) (field_kept es e x (λ q. q.left) refl) (field_kept es e x (λ q. q.right) refl)

pub anchored-belong : (n : NetworkParts) (es fs : List PriceEntry) (e : ℕ) → BelongTo n es → IsChange n es fs e (anchored (entry es e)) → (entry es e).live ≡ true → ¬ IsHullNumber n e → BelongTo n fs
anchored-belong n es fs e b c live inner =
    let x = anchored (entry es e) in
    let h = c.entries.each e c.e_in in
    let table = ap table_of c.is ∙ anchored-table es e in
    let same : prices_of n fs ≡ prices_of n es
    = ap (λ (t : PriceTable). table_prices n t (live_numbers (live_of fs))) table
    ∙ ap (λ (bs : List Bool). table_prices n (table_of es) (live_numbers bs)) (live_same n es fs e x c) in
    let own : IsEntryOf n (prices_of n es) e (edge_at n e).a (edge_at n e).b x
    = record {
      price = h.price;
      anchor = h.anchor;
      left = h.left;
      right = h.right;
      up = h.up;
      down = h.down;
      killed = h.killed;
      hull_live = h.hull_live;
      inner = λ on. (live, inner);
      elsewhere = λ off. absurd (false≢true (sym off));
    } in
    let zero : IsZeroWhereBare n (prices_of n es) e x = let z = b.bare e c.e_in in record { hull = z.hull; left = z.left; right = z.right } in
    let value : (k : ℕ) → (entry fs k).value ≡ (entry es k).value = λ k. sym (value_is fs k) ∙ (ap (λ (t : PriceTable). value_at t k) table ∙ value_is es k) in
    belong_kept n es fs b (entries_changed n es fs e x c (subst (λ (ps : List Priced). IsEntryOf n ps e (edge_at n e).a (edge_at n e).b x) (sym same) own))
    (bare_changed n es fs e x c zero b.bare)
    (subst (λ (ps : List Priced). IsFeasible n.points n.hull ps) (sym same) b.feasible)
    (λ k inner. let is = value k in omega (arith, ints, is))
    (λ k hull. let is = value k in omega (arith, ints, is))

-- The edges xs have been given anchors, but for those of the hull.
pub record AreAnchored (n : NetworkParts) (es fs : List PriceEntry) (xs : List Edge) : Type 0 where
  pub belong : BelongTo n fs
  pub live : live_of fs ≡ live_of es
  pub same : table_of fs ≡ table_of es
  pub forth : (k : ℕ) → (entry fs k).anchored ≡ true → (k < length n.edges) × Contains xs (edge_at n k) × (¬ IsHullNumber n k)
  pub back : (k : ℕ) → k < length n.edges → Contains xs (edge_at n k) → ¬ IsHullNumber n k → (entry fs k).anchored ≡ true

pub none_anchored : (n : NetworkParts) (es : List PriceEntry) → BelongTo n es → ((k : ℕ) → (entry es k).anchored ≡ false) → AreAnchored n es es []
none_anchored n es b none =
    record {
      belong = b;
      live = refl;
      same = refl;
      forth = λ k on. absurd (false≢true (sym (none k) ∙ on));
      back = λ k k_in (j, j_in, at_j) inner. absurd (omega (arith, j_in));
    }

-- an edge has its number
number-edge : (n : NetworkParts) (e : ℕ) (x : Edge) → IsNumberOf n x.a x.b e → edge_at n e ≡ x
number-edge n e x is = let ends = ends_up n e x.a x.b is x.ascending in Edge-equal (edge_at n e) x ends.0 ends.1

-- one edge more
pub more_anchored : (n : NetworkParts) (es fs gs : List PriceEntry) (xs : List Edge) (x : Edge) (e : ℕ) → AreAnchored n es fs xs → IsNumberOf n x.a x.b e → ¬ IsHullNumber n e
    → BelongTo n gs → gs ≡ set fs e (anchored (entry fs e)) → AreAnchored n es gs (xs ++ x ∷ [])
more_anchored n es fs gs xs x e h is inner after gs_is =
    let c : IsChange n fs gs e (anchored (entry fs e)) = record { entries = h.belong.entries; e_in = is.0; is = gs_is; live = refl } in
    let now : (entry gs e).anchored ≡ true = ap (λ (p : PriceEntry). p.anchored) (new_entry n fs gs e (anchored (entry fs e)) c) in
    let edge = number-edge n e x is in
    record {
      belong = after;
      live = live_same n fs gs e (anchored (entry fs e)) c ∙ h.live;
      same = ap table_of gs_is ∙ (anchored-table fs e ∙ h.same);
      forth = λ k on. ⊎_elim
          (λ (same : k ≡ e). subst (λ (j : ℕ). (j < length n.edges) × Contains (xs ++ x ∷ []) (edge_at n j) × (¬ IsHullNumber n j)) (sym same)
          (is.0, subst (λ (y : Edge). Contains (xs ++ x ∷ []) y) (sym edge) (Contains-push xs x), inner))
          (λ (away : k ≢ e).
          let old = h.forth k (ap (λ (p : PriceEntry). p.anchored) (sym (other_entry n fs gs e (anchored (entry fs e)) k c away)) ∙ on) in
          (old.0, Contains-append_left xs (x ∷ []) (edge_at n k) old.1, old.2))
          (cases_eq k e);
      back = λ k k_in has out. ⊎_elim
          (λ (same : k ≡ e). ap (λ (j : ℕ). (entry gs j).anchored) same ∙ now)
          (λ (away : k ≢ e). ap (λ (p : PriceEntry). p.anchored) (other_entry n fs gs e (anchored (entry fs e)) k c away)
          ∙ h.back k k_in (⊎_elim
          (λ (old : Contains xs (edge_at n k)). old)
          (λ (new : x ≡ edge_at n k). absurd (away (edge_at-once n k e h.belong.entries.network.ascending k_in is.0 (sym new ∙ sym edge))))
          (Contains-push_cases xs x (edge_at n k) has)) out)
          (cases_eq k e);
    }

-- an edge of the hull is passed over
pub hull_passed : (n : NetworkParts) (es fs : List PriceEntry) (xs : List Edge) (x : Edge) (e : ℕ) → AreAnchored n es fs xs → IsNumberOf n x.a x.b e → IsHullNumber n e → AreAnchored n es fs (xs ++ x ∷ [])
hull_passed n es fs xs x e h is hull =
    record {
      belong = h.belong;
      live = h.live;
      same = h.same;
      forth = λ k on. let old = h.forth k on in (old.0, Contains-append_left xs (x ∷ []) (edge_at n k) old.1, old.2);
      back = λ k k_in has out. h.back k k_in (⊎_elim
          (λ (old : Contains xs (edge_at n k)). old)
          (λ (new : x ≡ edge_at n k).
          let same : k ≡ e = edge_at-once n k e h.belong.entries.network.ascending k_in is.0 (sym new ∙ sym (number-edge n e x is)) in
          absurd (out (subst (IsHullNumber n) (sym same) hull)))
          (Contains-push_cases xs x (edge_at n k) has)) out;
    }

-- a live edge and its number
pub live_edge : (n : NetworkParts) (es : List PriceEntry) (x : Edge) → Contains (live_edges n (live_of es)) x → (k : ℕ) × IsNumberOf n x.a x.b k × ((entry es k).live ≡ true)
live_edge n es x has =
    let r = picked_from (live_of es) n.edges x has in
    let is : edge_at n r.0 ≡ x = get_or_default n.edges r.0 _ x r.1 ∙ r.3 in
    (r.0, (r.1, subst (λ (y : Edge). Joins y x.a x.b) (sym is) (Joins-ends x)), sym (live_at es r.0) ∙ r.2)

-- the number of a live edge is live
pub live_number_of : (n : NetworkParts) (es : List PriceEntry) (x : Edge) (e : ℕ) → BelongTo n es → Contains (live_edges n (live_of es)) x → IsNumberOf n x.a x.b e → (entry es e).live ≡ true
live_number_of n es x e b has is =
    let k = live_edge n es x has in
    let same : k.0 ≡ e = edge_at-once n k.0 e b.entries.network.ascending k.1.0 is.0 (number-edge n k.0 x k.1 ∙ sym (number-edge n e x is)) in
    ap (λ (j : ℕ). (entry es j).live) (sym same) ∙ k.2

-- the anchored edges are those that were given anchors
pub anchored-forth : (n : NetworkParts) (es fs : List PriceEntry) (xs : List Edge) (x : Edge) → AreAnchored n es fs xs → Contains (anchored_edges n fs) x → Contains xs x × (¬ IsHullEdge n.hull x)
anchored-forth n es fs xs x h has =
    let k = anchored-number n fs x has in
    let f = h.forth k.0 k.3 in
    (subst (Contains xs) k.2 f.1, subst (λ (y : Edge). ¬ IsHullEdge n.hull y) k.2 f.2)

pub anchored-back : (n : NetworkParts) (es fs : List PriceEntry) (xs : List Edge) (x : Edge) → AreAnchored n es fs xs → Contains (live_edges n (live_of es)) x → Contains xs x → ¬ IsHullEdge n.hull x
    → Contains (anchored_edges n fs) x
anchored-back n es fs xs x h live has out =
    let k = live_edge n es x live in
    let is = number-edge n k.0 x k.1 in
    let flag = h.back k.0 k.1.0 (subst (Contains xs) (sym is) has) (subst (λ (y : Edge). ¬ IsHullEdge n.hull y) (sym is) out) in
    subst (Contains (anchored_edges n fs)) is (picked_in (map (λ p. p.anchored) fs) n.edges k.0 _ k.1.0 (get_or-mapped (λ (p : PriceEntry). p.anchored) fs k.0 no_entry ∙ flag))
