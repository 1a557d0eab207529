-- The chosen triangles are a triangulation with live edges, and the prices prove it.
use Rattle.std.proofs.Common.{◌≡◌, ◌⊎◌, ℕ, ◌<◌, List, length, map, flat_map, All, AllPairs, Contains, ℤ, pos, ◌≤ℤ◌, arith, sym, ◌∙◌, subst, ⊎_elim, inl, inr}
use Rattle.std.proofs.lemmas.Int.{ints}
use Rattle.std.proofs.lemmas.List.Elements.{All-contains, All-map, All-weaker}
use Rattle.exact_predicates.specs.declared.edge.Edge.{Edge}
use Rattle.exact_predicates.specs.declared.tri.Tri.{Tri}
use Rattle.exact_predicates.specs.Candidates.{EdgePrecedes, HasEdge, IsEmptyOver, Joins}
use Rattle.exact_predicates.specs.Hull.{IsHullPair}
use Rattle.exact_predicates.specs.Triangulation.{IsEmpty, IsTriangulation, edges, is_inner, side_count, sides}
use Rattle.exact_predicates.proofs.EdgeCounts.{edge_count-sides}
use Rattle.exact_predicates.proofs.Equalities.{Contains-HasEdge, HasEdge-Contains, HasEdge-comm, Joins-ends}
use Rattle.exact_predicates.proofs.HullPairs.{pair_none}
use Rattle.exact_predicates.proofs.SidesCounted.{count}
use Rattle.length_enclosure.specs.Enclosure.{lo}
use Rattle.lmt_network.specs.Edges.{HasEdgesIn}
use Rattle.lmt_network.specs.Flags.{live_edges, live_numbers}
use Rattle.lmt_network.specs.Network.{edge_at}
use Rattle.lmt_network.specs.Numbers.{HasSide}
use Rattle.lmt_network.specs.PriceTables.{PriceTable, entry_at, table_prices}
use Rattle.lmt_network.specs.Prices.{ArePrices, IsTight, IsTightSide, Priced, bound, slack}
use Rattle.lmt_network.proofs.Anchors.{count_up, up}
use Rattle.lmt_network.proofs.Filters.{count_to, filter-from, side_from}
use Rattle.lmt_network.proofs.Naming.{flags_named}
use Rattle.lmt_network.proofs.Picked.{All-from_members, AllPairs-picked}
use Rattle.lmt_network.proofs.SideEdges.{ends_of, IsEnds, inside, pair}
use Rattle.price_ascent.specs.Ascent.{left_at, right_at}
use Rattle.face_optimum.specs.declared.site.Site.{Site}
use Rattle.face_optimum.specs.Chosen.{AreRootCosts, IsChosenTri}
use Rattle.face_optimum.specs.Cuts.{AreCosts}
use Rattle.face_optimum.specs.Priced.{ArePriced}
use Rattle.face_optimum.specs.Optimum.{AreInnerSkeleton}
use Rattle.face_optimum.specs.Parts.{IsTiling}
use Rattle.face_optimum.specs.Sites.{IsSite, faces_of, most_places}
use Rattle.face_optimum.proofs.Covers.{covers, inner_side}
use Rattle.face_optimum.proofs.EqualBounds.{equal_bound}
use Rattle.face_optimum.proofs.Slacks.{chosen_live, chosen_tight, live_priced}
use Rattle.face_optimum.proofs.EdgeKinds.{Kind, hull_edge, kind, part_edge, skeleton_edge}

-- a side of an empty triangle over some edges is one of them
side_over : (s : Site) (es : List Edge) (t : Tri) (u v : ℕ) → IsEmptyOver s.net.now.points es t → HasSide t u v → HasEdge es u v
side_over s es t u v over (w, corners) =
    ⊎_elim
    (λ k. moved _ _ k.0 k.1 over.ab)
    (λ o. ⊎_elim (λ k. moved _ _ k.0 k.1 over.bc) (λ k. moved _ _ k.0 k.1 over.ca) o)
    corners
  where
    moved : (x y : ℕ) → x ≡ u → y ≡ v → HasEdge es x y → HasEdge es u v
    moved x y a b has = subst (λ (z : ℕ). HasEdge es z v) a (subst (λ (z : ℕ). HasEdge es x z) b has)

module _ (s : Site) (h : IsSite s) (costs choices : List ℕ) (c : AreCosts s.net.now s.flags.now s.skeleton.now (faces_of s) s.edge_seats.now s.tri_seats.now costs choices)
    (tris : List Tri) (tiling : IsTiling (IsChosenTri s costs) s.skeleton.now (faces_of s) tris) where
  -- the chosen triangles are live
  over_live : All (IsEmptyOver s.net.now.points (live_edges s.net.now s.flags.now)) tris
  over_live = All-weaker (IsChosenTri s costs) (IsEmptyOver s.net.now.points (live_edges s.net.now s.flags.now)) (λ t is. tri_live t is) tris tiling.each
    where
      tri_live : (t : Tri) → IsChosenTri s costs t → IsEmptyOver s.net.now.points (live_edges s.net.now s.flags.now) t
      tri_live t is = chosen_live s costs t is

  pub triangulation : IsTriangulation s.net.now.points s.net.now.hull tris
  triangulation =
      covers s.net.now.points s.net.now.hull s.skeleton.now h.cycles (faces_of s) most_places
      h.network.hull_is h.faces_are h.rings_are h.cut h.on_hull (IsChosenTri s costs) tris tiling
      (All-weaker (IsEmptyOver s.net.now.points (live_edges s.net.now s.flags.now)) (IsEmpty s.net.now.points) (λ t over. over.empty) tris over_live)

  -- each pair of the hull is a live edge
  hull_live : (u v : ℕ) (e : Edge) → Joins e u v → IsHullPair s.net.now.hull u v → Contains (live_edges s.net.now s.flags.now) e
  hull_live u v e joins p =
      All-contains (Contains (live_edges s.net.now s.flags.now)) s.skeleton.now e h.live_skeleton (Contains-HasEdge s.skeleton.now e u v joins (h.on_hull u v p))

  pub edges_live : HasEdgesIn s.net.now.hull tris (live_edges s.net.now s.flags.now)
  edges_live e is =
      let (u, v, joins, ends) = ends_of s.net.now.hull tris e is in
      at u v joins ends
    where
      at : (u v : ℕ) → Joins e u v → IsEnds s.net.now.hull tris u v → Contains (live_edges s.net.now s.flags.now) e
      at u v joins (pair p) = hull_live u v e joins p
      at u v joins (inside l none has) =
          let (k, t, k_in, at_k, side) = side_from tris u v (filter-from (is_inner s.net.now.hull) (flat_map sides tris) (u, v) has).0 in
          let over = All-contains (IsEmptyOver s.net.now.points (live_edges s.net.now s.flags.now)) tris t over_live (k, k_in, at_k) in
          Contains-HasEdge (live_edges s.net.now s.flags.now) e u v joins (side_over s (live_edges s.net.now s.flags.now) t u v over side)

  -- each side of the skeleton that is not outside is one of a chosen triangle, once
  side_once : (u v : ℕ) → HasEdge s.skeleton.now u v → ¬ IsHullPair s.net.now.hull v u → side_count tris u v ≡ 1
  side_once u v has none =
      tiling.exact u v has
      ∙ inner_side s.net.now.points s.net.now.hull s.skeleton.now h.cycles (faces_of s) most_places
      h.network.hull_is h.faces_are h.rings_are h.cut h.on_hull u v has none

  module _ (root_costs : List ℕ) (l : AreRootCosts s costs (length (faces_of s)) root_costs) (table : PriceTable) (p : ArePriced s costs root_costs table)
      (anchored : List Edge) (inner : AreInnerSkeleton s.net.now.hull s.skeleton.now anchored) where
    abbrev prices : List Priced
    prices = table_prices s.net.now table (live_numbers s.flags.now)

    tight_tri : (t : Tri) → IsChosenTri s costs t → slack s.net.now.points s.net.now.hull prices t ≡ pos 0
    tight_tri t is = chosen_tight s h costs choices c root_costs l table p t is

    -- the side of a chosen triangle is tight
    tight_side : (u v : ℕ) (y : ℤ) → side_count tris u v ≡ 1 → IsTightSide s.net.now.points s.net.now.hull prices u v y
    tight_side u v y one =
        let (k, t, k_in, at_k, side) = side_from tris u v (count_to (flat_map sides tris) u v (omega arith)) in
        let over = All-contains (IsEmptyOver s.net.now.points (live_edges s.net.now s.flags.now)) tris t over_live (k, k_in, at_k) in
        inl (
          t,
          side,
          subst (λ (es : List Edge). IsEmptyOver s.net.now.points es t) (sym (live_priced s h costs choices c root_costs l table p)) over,
          tight_tri t (All-contains (IsChosenTri s costs) tris t tiling.each (k, k_in, at_k)),
        )

    -- the ends of an anchored edge
    not_pair : (e : Edge) → Contains anchored e → ¬ IsHullPair s.net.now.hull e.b e.a
    not_pair e has back = ((inner e).0 has).1 (inr back)

    not_pair_up : (e : Edge) → Contains anchored e → ¬ IsHullPair s.net.now.hull e.a e.b
    not_pair_up e has forth = ((inner e).0 has).1 (inl forth)

    both_sides : (e : Edge) → Contains anchored e → (side_count tris e.a e.b ≡ 1) × (side_count tris e.b e.a ≡ 1)
    both_sides e has =
        let up_has : HasEdge s.skeleton.now e.a e.b = HasEdge-Contains s.skeleton.now e e.a e.b (Joins-ends e) ((inner e).0 has).0 in (
          side_once e.a e.b up_has (not_pair e has),
          side_once e.b e.a (HasEdge-comm s.skeleton.now e.a e.b up_has) (not_pair_up e has),
        )

    pub tight : IsTight s.net.now.points s.net.now.hull anchored prices
    tight =
        record {
          hull_sides = λ u v pair. tight_side u v _ (triangulation.hull_once u v pair);
          lefts = λ e has. tight_side e.a e.b _ (both_sides e has).0;
          rights = λ e has. tight_side e.b e.a _ (both_sides e has).1;
        }

    once : (e : Edge) → Contains anchored e → count (map up (edges s.net.now.hull tris)) e.a e.b ≡ 1
    once e has =
        let up = e.ascending in
        omega (
          arith,
          count_up (edges s.net.now.hull tris) e.a e.b up,
          edge_count-sides s.net.now.points s.net.now.hull tris e.a e.b h.network.hull_is triangulation up,
          (both_sides e has).0,
          pair_none s.net.now.hull e.b e.a (not_pair e has),
        )

    -- a fact of the entry of each live edge, by what the edge is
    each_price : (P : Priced → Type 0) → ((e : ℕ) → e < length s.net.now.edges → Kind s h e → P (entry_at s.net.now table e)) → All P (table_prices s.net.now table (live_numbers s.flags.now))
    each_price P fact =
        let names = flags_named s.net.now s.flags.now h.network.ascending h.one_each in
        All-map P (entry_at s.net.now table) (live_numbers s.flags.now)
        (All-from_members (λ e. P (entry_at s.net.now table e)) (live_numbers s.flags.now)
        (λ e has. let e_in = names.in_range e has in fact e e_in (kind s h e e_in (names.there e has))))

    pub prices_are : ArePrices anchored prices
    prices_are =
        record {
          ascending = subst (λ (es : List Edge). AllPairs EdgePrecedes es) (sym (live_priced s h costs choices c root_costs l table p))
              (AllPairs-picked EdgePrecedes s.flags.now s.net.now.edges h.network.ascending);
          not_negative = each_price (λ q. (pos 0 ≤ℤ q.left) × (pos 0 ≤ℤ q.right)) at;
          elsewhere = each_price (λ q. Contains anchored q.edge ⊎ ((q.left ≡ pos 0) × (q.right ≡ pos 0))) where_is;
        }
      where
        at : (e : ℕ) → e < length s.net.now.edges → Kind s h e → (pos 0 ≤ℤ left_at table e) × (pos 0 ≤ℤ right_at table e)
        at e e_in (part_edge o) = let q = p.parts e o in (omega (arith, ints, q.left), omega (arith, ints, q.right))
        at e e_in (hull_edge o) = let q = p.on_hull e e_in o in (omega (arith, ints, q.left), omega (arith, ints, q.right))
        at e e_in (skeleton_edge has away) = let q = p.inner e e_in has away in (omega (arith, ints, q.left), omega (arith, ints, q.right))

        where_is : (e : ℕ) → e < length s.net.now.edges → Kind s h e → Contains anchored (edge_at s.net.now e) ⊎ ((left_at table e ≡ pos 0) × (right_at table e ≡ pos 0))
        where_is e e_in (part_edge o) = let q = p.parts e o in inr (q.left, q.right)
        where_is e e_in (hull_edge o) = let q = p.on_hull e e_in o in inr (q.left, q.right)
        where_is e e_in (skeleton_edge has away) = inl ((inner (edge_at s.net.now e)).1 (has, away))

    -- the bound is the length
    pub bound_is : bound s.net.now.hull prices ≡ pos (lo s.net.now.points (edges s.net.now.hull tris))
    bound_is =
        equal_bound s.net.now.points s.net.now.hull anchored prices tris prices_are h.network.hull_is triangulation once
        (λ t has. tight_tri t (All-contains (IsChosenTri s costs) tris t tiling.each has))
