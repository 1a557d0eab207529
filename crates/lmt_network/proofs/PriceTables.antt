-- Prices by the numbers of edges, and what they say of the edges.
use Rattle.std.proofs.Common.{◌≡◌, ℕ, suc, ◌+◌, ◌<◌, max, Bool, true, false, List, [], ◌∷◌, length, get_or, map, All, Contains, refl, ap, sym, ◌∙◌, subst, arith, inl}
use Rattle.std.specs.List.{items_where_true, range_with_len}
use Rattle.std.proofs.lemmas.List.{get_or_default}
use Rattle.std.proofs.lemmas.List.Elements.{All-contains, Contains-get_or}
use Rattle.exact_predicates.specs.declared.edge.Edge.{Edge}
use Rattle.exact_predicates.specs.Candidates.{IsEmptyOver, Joins}
use Rattle.exact_predicates.proofs.Equalities.{Edge-equal}
use Rattle.lmt_network.specs.Network.{IsNetwork, NetworkParts, edge_at, tri_at}
use Rattle.lmt_network.specs.Numbers.{IsNumberOf, IsSideOf}
use Rattle.lmt_network.specs.PriceTables.{PriceTable, TablesAreByNumber, TablesPriceLiveEdges, entry_at, table_prices}
use Rattle.lmt_network.specs.Prices.{Priced, find_priced, priced, priced_edges}
use Rattle.lmt_network.proofs.Entries.{contains_map, find_priced-entry, map_contains}
use Rattle.lmt_network.proofs.Naming.{AreNamed, edge_at-once, over_named, side_named, tri_number}

-- the priced edges are named by their numbers
named : (n : NetworkParts) (table : PriceTable) (live : List ℕ) → IsNetwork n → All (λ e. e < length n.edges) live → AreNamed n live (priced_edges (table_prices n table live))
named n table live net within =
    record {
      in_range = λ e h. All-contains (λ x. x < length n.edges) live e within h;
      there = λ e h. contains_map (λ p. p.edge) (table_prices n table live) (entry_at n table e) (contains_map (entry_at n table) live e h);
      back = λ e e_in h.
          let (k, has, same) = number (edge_at n e) h in
          subst (Contains live) (edge_at-once n k e net.ascending (All-contains (λ x. x < length n.edges) live k within has) e_in same) has;
      known = λ f h.
          let (k, has, same) = number f h in
          subst (Contains n.edges) same (Contains-get_or n.edges k _ (All-contains (λ x. x < length n.edges) live k within has));
    }
  where
    number : (f : Edge) → Contains (priced_edges (table_prices n table live)) f → (k : ℕ) × Contains live k × (edge_at n k ≡ f)
    number f h =
        let (p, has_p, is_p) = map_contains (λ p. p.edge) (table_prices n table live) f h in
        let (k, has_k, is_k) = map_contains (entry_at n table) live p has_p in
        (k, has_k, ap (λ (q : Priced). q.edge) is_k ∙ is_p)

-- what is found of a live edge is its entry
entry : (n : NetworkParts) (table : PriceTable) (live : List ℕ) (e u v : ℕ) → IsNetwork n → All (λ e. e < length n.edges) live → Contains live e → IsNumberOf n u v e
    → priced (table_prices n table live) u v ≡ entry_at n table e
entry n table live e u v net within h is =
    let prices = table_prices n table live in
    let p = entry_at n table e in
    let k = find_priced-entry prices p (contains_map (entry_at n table) live e h) in
    let (j, has, same) = map_contains (entry_at n table) live (find_priced prices p.edge.a p.edge.b) k.has in
    let edge : edge_at n j ≡ edge_at n e = ap (λ (q : Priced). q.edge) same ∙ Edge-equal (find_priced prices p.edge.a p.edge.b).edge p.edge k.a_is k.b_is in
    let number : j ≡ e = edge_at-once n j e net.ascending (All-contains (λ x. x < length n.edges) live j within has) is.0 edge in
    ap (λ a. find_priced prices a (max u v)) (sym is.1.0)
    ∙ (ap (λ b. find_priced prices (edge_at n e).a b) (sym is.1.1) ∙ (sym same ∙ ap (entry_at n table) number))

-- a triangle has a side with a number
some_side : (n : NetworkParts) (t : ℕ) → IsNetwork n → t < length n.tris → (f : ℕ) × IsSideOf n t f
some_side n t net t_in =
    let over : IsEmptyOver n.points n.edges (tri_at n t) = net.tris_are.each t _ t_in in
    let (k, e, k_in, at_k, joins) = over.ab in
    let is : edge_at n k ≡ e = get_or_default n.edges k _ e k_in ∙ at_k in
    (k, inl (k_in, subst (λ (x : Edge). Joins x (tri_at n t).a (tri_at n t).b) (sym is) joins))

pub by_number_law : TablesAreByNumber
by_number_law n table live net within =
    let fs = priced_edges (table_prices n table live) in
    let names = named n table live net within in
    record {
      entries = λ e u v h is. entry n table live e u v net within h is;
      triangles = λ t t_in. (
        (λ over f side. side_named n live fs t f names over side),
        (λ sides.
            let side = some_side n t net t_in in
            over_named n live fs side.0 t net names t_in (sides side.0 side.1) (λ f other k. sides f k)),
      );
      all = λ t over. tri_number n fs t net names.known over;
    }

-- the picked numbers of a range are those of the picked elements
picked_range : {X : Type 0} (f : ℕ → X) (bs : List Bool) (xs : List X) (i : ℕ) → length bs ≡ length xs → ((k : ℕ) (d : X) → k < length xs → f (i + k) ≡ get_or xs k d)
    → map f (items_where_true bs (range_with_len i (length bs))) ≡ items_where_true bs xs
picked_range f [] xs i size same = refl
picked_range f (b ∷ bs) [] i size same = absurd (omega (arith, size))
picked_range {X} f (b ∷ bs) (x ∷ xs) i size same = at b (picked_range f bs xs (i + 1) (omega (arith, size)) (λ k d l. moved k d ∙ same (suc k) d (omega arith)))
  where
    moved : (k : ℕ) (d : X) → f (i + 1 + k) ≡ f (i + suc k)
    moved k d = let e : i + 1 + k ≡ i + suc k = omega arith in ap f e

    first : f i ≡ x
    first = let e : i ≡ i + 0 = omega arith in ap f e ∙ same 0 x (omega arith)

    at : (b : Bool) → map f (items_where_true bs (range_with_len (i + 1) (length bs))) ≡ items_where_true bs xs
        → map f (items_where_true (b ∷ bs) (range_with_len i (length (b ∷ bs)))) ≡ items_where_true (b ∷ bs) (x ∷ xs)
    at true rest = ap (λ y. y ∷ map f (items_where_true bs (range_with_len (i + 1) (length bs)))) first ∙ ap (λ ys. x ∷ ys) rest
    at false rest = rest

map-map : {X Y Z : Type 0} (g : Y → Z) (f : X → Y) (xs : List X) → map g (map f xs) ≡ map (λ x. g (f x)) xs
map-map g f [] = refl
map-map g f (x ∷ xs) = ap (λ ys. g (f x) ∷ ys) (map-map g f xs)

pub edges_law : TablesPriceLiveEdges
edges_law n table flags size =
    map-map (λ p. p.edge) (entry_at n table) (items_where_true flags (range_with_len 0 (length flags)))
    ∙ picked_range (edge_at n) flags n.edges 0 size (λ k d l. zero-plus k ∙ get_or_default n.edges k _ d l)
  where
    zero-plus : (k : ℕ) → edge_at n (0 + k) ≡ edge_at n k
    zero-plus k = let e : 0 + k ≡ k = omega arith in ap (edge_at n) e
