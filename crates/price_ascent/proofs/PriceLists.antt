-- The prices of live edges, as a list.
use Rattle.std.proofs.Common.{◌≡◌, ◌⊎◌, ℕ, ◌<◌, true, false, List, length, map, All, AllPairs, Contains, pos, ◌≤ℤ◌, ap, sym, ◌∙◌, subst, arith, ⊎_elim, inl, inr}
use Rattle.std.proofs.lemmas.Bool.{cases_Bool}
use Rattle.std.proofs.lemmas.Int.{ints}
use Rattle.std.proofs.lemmas.List.Elements.{All-map}
use Rattle.exact_predicates.specs.declared.diamond.Diamond.{Diamond}
use Rattle.exact_predicates.specs.declared.edge.Edge.{Edge}
use Rattle.exact_predicates.specs.declared.tri.Tri.{Tri}
use Rattle.exact_predicates.specs.Candidates.{EdgePrecedes}
use Rattle.exact_predicates.specs.Triangulation.{IsTriangulation, edges}
use Rattle.length_enclosure.specs.Enclosure.{lo}
use Rattle.lmt_network.specs.Edges.{HasEdgesIn, IsEdgeOf}
use Rattle.lmt_network.specs.Flags.{live_edges, live_numbers}
use Rattle.lmt_network.specs.Network.{NetworkParts}
use Rattle.lmt_network.specs.PriceTables.{entry_at}
use Rattle.lmt_network.specs.Live.{IsLive}
use Rattle.lmt_network.specs.Prices.{ArePrices, IsFeasible, Priced, bound}
use Rattle.lmt_network.specs.Skeleton.{IsSkeletonEdge}
use Rattle.lmt_network.proofs.BoundLaws.{below_split_law}
use Rattle.lmt_network.proofs.LowerBounds.{below_law}
use Rattle.lmt_network.proofs.Picked.{AllPairs-picked, All-from_members, flag_in, flag_from_live, picked_in}
use Rattle.std.proofs.lemmas.List.{get_or-map, length-map}
use Rattle.price_ascent.specs.declared.entry.PriceEntry.{PriceEntry}
use Rattle.price_ascent.specs.Belonging.{AreEntriesOf, BelongTo, HasNarrowRanges, IsWithinRanges}
use Rattle.price_ascent.specs.Entries.{anchored_edges, entry, live_of, no_entry, prices_of, table_of}
use Rattle.price_ascent.proofs.Kept.{entry_at-kept, get_or-mapped, kept_price, live_number}
use Rattle.price_ascent.proofs.LiveSides.{edges-kept}
use Rattle.price_ascent.proofs.Narrow.{limits}

-- a live number is that of an edge
pub live_in : (n : NetworkParts) (es : List PriceEntry) (k : ℕ) → length es ≡ length n.edges → Contains (live_numbers (live_of es)) k → k < length n.edges
live_in n es k one_each has =
    let l = flag_in (live_of es) k (flag_from_live (live_of es) k has) in
    let many = length-map es (λ (p : PriceEntry). p.live) in
    omega arith

-- what holds of each price
each_price : (n : NetworkParts) (es : List PriceEntry) (P : Priced → Type 0) → length es ≡ length n.edges → ((k : ℕ) → k < length n.edges → P (kept_price n es k)) → All P (prices_of n es)
each_price n es P one_each each =
    All-map P (entry_at n (table_of es)) (live_numbers (live_of es))
    (All-from_members (λ k. P (entry_at n (table_of es) k)) (live_numbers (live_of es))
    (λ k has. subst P (sym (entry_at-kept n es k)) (each k (live_in n es k one_each has))))

pub are_prices : (n : NetworkParts) (es : List PriceEntry) → AreEntriesOf n es → ArePrices (anchored_edges n es) (prices_of n es)
are_prices n es b =
    record {
      ascending = subst (λ (xs : List Edge). AllPairs EdgePrecedes xs) (sym (edges-kept n es b.one_each)) (AllPairs-picked EdgePrecedes (live_of es) n.edges b.network.ascending);
      not_negative = each_price n es (λ p. (pos 0 ≤ℤ p.left) × (pos 0 ≤ℤ p.right)) b.one_each (λ k k_in. ((b.each k k_in).left.0, (b.each k k_in).right.0));
      elsewhere = each_price n es (λ p. Contains (anchored_edges n es) p.edge ⊎ ((p.left ≡ pos 0) × (p.right ≡ pos 0))) b.one_each (λ k k_in.
          ⊎_elim
          (λ (on : (entry es k).anchored ≡ true). inl (picked_in (map (λ p. p.anchored) es) n.edges k _ k_in (get_or-mapped (λ (p : PriceEntry). p.anchored) es k no_entry ∙ on)))
          (λ (off : (entry es k).anchored ≡ false). inr ((b.each k k_in).elsewhere off))
          (cases_Bool (entry es k).anchored));
    }

-- the amounts of live edges are within their limits
pub within_limits : (n : NetworkParts) (es : List PriceEntry) → BelongTo n es → All (HasNarrowRanges n.hull) (prices_of n es)
within_limits n es b = each_price n es (HasNarrowRanges n.hull) b.entries.one_each (λ k k_in. limits n es k b k_in)

-- no triangulation with live edges that has all anchored edges is shorter than the bound
pub below_with_anchored : (n : NetworkParts) (es : List PriceEntry) (tris : List Tri) → AreEntriesOf n es → IsFeasible n.points n.hull (prices_of n es) → IsTriangulation n.points n.hull tris
    → HasEdgesIn n.hull tris (live_edges n (live_of es)) → All (IsEdgeOf n.hull tris) (anchored_edges n es) → bound n.hull (prices_of n es) ≤ℤ pos (lo n.points (edges n.hull tris))
below_with_anchored n es tris b feasible t live each =
    below_law n.points n.hull (anchored_edges n es) (prices_of n es) tris (are_prices n es b) feasible b.network.hull_is t
    (subst (HasEdgesIn n.hull tris) (sym (edges-kept n es b.one_each)) live) each

pub below_of_skeleton : (n : NetworkParts) (es : List PriceEntry) (diamond : Diamond) (tris : List Tri) → AreEntriesOf n es → IsFeasible n.points n.hull (prices_of n es)
    → IsLive n.points n.hull diamond (live_edges n (live_of es)) → All (IsSkeletonEdge n.points (live_edges n (live_of es))) (anchored_edges n es) → IsTriangulation n.points n.hull tris
    → HasEdgesIn n.hull tris (live_edges n (live_of es)) → bound n.hull (prices_of n es) ≤ℤ pos (lo n.points (edges n.hull tris))
below_of_skeleton n es diamond tris b feasible is_live skeleton t live =
    let same = sym (edges-kept n es b.one_each) in
    below_split_law n.points n.hull diamond (anchored_edges n es) (prices_of n es) tris
    (record {
      hull_is = b.network.hull_is;
      live = subst (IsLive n.points n.hull diamond) same is_live;
      skeleton = subst (λ (xs : List Edge). All (IsSkeletonEdge n.points xs) (anchored_edges n es)) same skeleton;
      prices_are = are_prices n es b;
      feasible = feasible;
    })
    t (subst (HasEdgesIn n.hull tris) same live)

-- amounts that an ascent gives are in the ranges of a report
pub ranges_of_ascent : (n : NetworkParts) (es : List PriceEntry) → BelongTo n es → All (IsWithinRanges n.hull) (prices_of n es)
ranges_of_ascent n es b =
    each_price n es (IsWithinRanges n.hull) b.entries.one_each (λ k k_in.
    let l = limits n es k b k_in in
    let left = l.left in
    let right = l.right in
    let l0 = left.0 in
    let l1 = left.1 in
    let r0 = right.0 in
    let r1 = right.1 in
    record {
      price = l.price;
      anchor = λ hull. let y = l.anchor hull in let y0 = y.0 in let y1 = y.1 in (omega (arith, ints, y0), omega (arith, ints, y1));
      left = (l0, omega (arith, ints, l1));
      right = (r0, omega (arith, ints, r1));
    })

-- what holds of all prices holds of that of a live edge
pub price_of_live : (n : NetworkParts) (es : List PriceEntry) (P : Priced → Type 0) (e : ℕ) → All P (prices_of n es) → (entry es e).live ≡ true → P (kept_price n es e)
price_of_live n es P e all live =
    let nums = live_numbers (live_of es) in
    let f = entry_at n (table_of es) in
    let (k, k_in, at_k) = live_number es e live in
    let size = length-map nums f in
    subst P (get_or-map f nums k e (f e) k_in ∙ (ap f at_k ∙ entry_at-kept n es e)) (all k (f e) (omega (arith, size, k_in)))
