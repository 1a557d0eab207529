-- Live triangles and the numbers of their sides.
use Rattle.std.proofs.Common.{◌≡◌, ℕ, ◌<◌, true, List, length, get_or, Contains, ap, sym, ◌∙◌, subst, arith, ⊎_elim}
use Rattle.std.proofs.lemmas.Int.{ints}
use Rattle.std.proofs.lemmas.List.{get_or_default, length-map}
use Rattle.exact_predicates.specs.declared.edge.Edge.{Edge}
use Rattle.exact_predicates.specs.declared.tri.Tri.{Tri}
use Rattle.exact_predicates.specs.Candidates.{HasEdge, IsEmptyOver, Joins}
use Rattle.exact_predicates.specs.Hull.{IsHullPair}
use Rattle.exact_predicates.specs.PointSet.{point_at}
use Rattle.exact_predicates.specs.Triangulation.{IsEmpty}
use Rattle.exact_predicates.proofs.Corners.{IsBare-corners}
use Rattle.exact_predicates.proofs.Orientation.{orient_swapped}
use Rattle.lmt_network.specs.Flags.{live_edges}
use Rattle.lmt_network.specs.Network.{IsNetwork, NetworkParts, edge_at, tri_at}
use Rattle.lmt_network.specs.Numbers.{HasSide, IsNumberOf, IsSideOf}
use Rattle.lmt_network.specs.Prices.{IsLiveTriangle, priced_edges}
use Rattle.lmt_network.proofs.Picked.{picked_from}
use Rattle.lmt_network.proofs.PriceTables.{edges_law}
use Rattle.lmt_network.proofs.Settling.{three_live}
use Rattle.price_ascent.specs.declared.entry.PriceEntry.{PriceEntry}
use Rattle.price_ascent.specs.Entries.{entry, live_of, prices_of, table_of}
use Rattle.price_ascent.specs.Steps.{AreSidesLive}
use Rattle.price_ascent.proofs.Kept.{by_number, live_at, live_number, number-live}

-- the edges with a price are the live ones
pub edges-kept : (n : NetworkParts) (es : List PriceEntry) → length es ≡ length n.edges → priced_edges (prices_of n es) ≡ live_edges n (live_of es)
edges-kept n es one_each = edges_law n (table_of es) (live_of es) (length-map es (λ (p : PriceEntry). p.live) ∙ one_each)

-- an edge with a price has a number, and is live
edge_number : (n : NetworkParts) (es : List PriceEntry) (u v : ℕ) → length es ≡ length n.edges → HasEdge (priced_edges (prices_of n es)) u v
    → (e : ℕ) × IsNumberOf n u v e × ((entry es e).live ≡ true)
edge_number n es u v one_each has =
    let (k, x, k_in, at_k, joins) = subst (λ (fs : List Edge). HasEdge fs u v) (edges-kept n es one_each) has in
    let r = picked_from (live_of es) n.edges x (k, k_in, at_k) in
    let is : edge_at n r.0 ≡ x = get_or_default n.edges r.0 _ x r.1 ∙ r.3 in
    (r.0, (r.1, subst (λ (y : Edge). Joins y u v) (sym is) joins), sym (live_at es r.0) ∙ r.2)

-- so have the sides of a live triangle
pub side_number : (n : NetworkParts) (es : List PriceEntry) (t : Tri) (u v : ℕ) → length es ≡ length n.edges → IsLiveTriangle n.points (prices_of n es) t → HasSide t u v
    → (e : ℕ) × IsNumberOf n u v e × ((entry es e).live ≡ true)
side_number n es t u v one_each over (w, corners) =
    let fs = priced_edges (prices_of n es) in
    edge_number n es u v one_each
    (⊎_elim
    (λ (c : (t.a ≡ u) × (t.b ≡ v) × (t.c ≡ w)). moved fs t.a t.b c.0 c.1 over.ab)
    (λ o. ⊎_elim
    (λ (c : (t.b ≡ u) × (t.c ≡ v) × (t.a ≡ w)). moved fs t.b t.c c.0 c.1 over.bc)
    (λ (c : (t.c ≡ u) × (t.a ≡ v) × (t.b ≡ w)). moved fs t.c t.a c.0 c.1 over.ca)
    o)
    corners)
  where
    moved : (fs : List Edge) (x y : ℕ) → x ≡ u → y ≡ v → HasEdge fs x y → HasEdge fs u v
    moved fs x y e f has = subst (λ (z : ℕ). HasEdge fs z v) e (subst (λ (z : ℕ). HasEdge fs x z) f has)

-- the triangles whose sides are live
pub live_triangle : (n : NetworkParts) (es : List PriceEntry) (t : ℕ) → IsNetwork n → length es ≡ length n.edges → t < length n.tris → AreSidesLive n es t → IsLiveTriangle n.points (prices_of n es) (tri_at n t)
live_triangle n es t net one_each t_in sides = ((by_number n es net one_each).triangles t t_in).1 (λ f side. live_number es f (sides f side))

pub triangle_live : (n : NetworkParts) (es : List PriceEntry) (t : ℕ) → IsNetwork n → length es ≡ length n.edges → t < length n.tris → IsLiveTriangle n.points (prices_of n es) (tri_at n t) → AreSidesLive n es t
triangle_live n es t net one_each t_in over f side = number-live es f (((by_number n es net one_each).triangles t t_in).0 over f side)

-- each live triangle is one of the network
pub tri_of : (n : NetworkParts) (es : List PriceEntry) (t : Tri) → IsNetwork n → length es ≡ length n.edges → IsLiveTriangle n.points (prices_of n es) t
    → (k : ℕ) × (k < length n.tris) × (tri_at n k ≡ t)
tri_of n es t net one_each over =
    let (k, k_in, at_k) = (by_number n es net one_each).all t over in
    (k, k_in, get_or_default n.tris k _ t k_in ∙ at_k)

-- which triangles are live is seen by which edges are
pub same_live : (n : NetworkParts) (es fs : List PriceEntry) (t : Tri) → length es ≡ length n.edges → length fs ≡ length n.edges → live_of es ≡ live_of fs
    → IsLiveTriangle n.points (prices_of n es) t → IsLiveTriangle n.points (prices_of n fs) t
same_live n es fs t one_es one_fs same over =
    subst (λ (xs : List Edge). IsEmptyOver n.points xs t) (edges-kept n es one_es ∙ (ap (live_edges n) same ∙ sym (edges-kept n fs one_fs))) over

-- no empty triangle lies outside a pair of the hull
pub none_outside : (n : NetworkParts) (t : Tri) (u v : ℕ) → IsNetwork n → IsHullPair n.hull u v → IsEmpty n.points t → ¬ HasSide t v u
none_outside n t u v net pair empty (w, corners) =
    let bare = IsBare-corners n.points t v u w corners empty in
    let right = net.hull_is.none_right u v w pair bare.w_in in
    let left = bare.turns_left in
    absurd (omega (arith, ints, right, left, orient_swapped (point_at n.points u) (point_at n.points v) (point_at n.points w)))

-- three live edges that are all sides of a triangle
pub three_sides_live : (n : NetworkParts) (es : List PriceEntry) (t : ℕ) (xs : List ℕ) → length xs ≡ 3 → ((f : ℕ) → IsSideOf n t f → Contains xs f)
    → (entry es (get_or xs 0 0)).live ≡ true → (entry es (get_or xs 1 0)).live ≡ true → (entry es (get_or xs 2 0)).live ≡ true → AreSidesLive n es t
three_sides_live n es t xs three only ab bc ca f side =
    number-live es f
    (three_live n (live_of es) t xs three only
    (live_at es (get_or xs 0 0) ∙ ab) (live_at es (get_or xs 1 0) ∙ bc) (live_at es (get_or xs 2 0) ∙ ca) f side)
