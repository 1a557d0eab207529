-- How large slacks are.
use Rattle.std.proofs.Common.{◌≡◌, ℕ, ◌*◌, ◌^◌, ◌<◌, List, ℤ, pos, ◌+ℤ◌, ◌≤ℤ◌, refl, subst, arith, ⊎_elim, inl}
use Rattle.std.proofs.lemmas.Bool.{cases_lt}
use Rattle.std.proofs.lemmas.Int.{ints}
use Rattle.exact_predicates.specs.declared.tri.Tri.{Tri}
use Rattle.exact_predicates.proofs.Corners.{corners_differ}
use Rattle.lmt_network.specs.Network.{NetworkParts}
use Rattle.lmt_network.specs.Numbers.{HasSide}
use Rattle.lmt_network.specs.Prices.{IsFeasible, IsLiveTriangle, share, slack}
use Rattle.price_ascent.specs.declared.entry.PriceEntry.{PriceEntry}
use Rattle.price_ascent.specs.Ascent.{IsLeastSlack, IsLiveOn}
use Rattle.price_ascent.specs.Belonging.{AreEntriesOf}
use Rattle.price_ascent.specs.Entries.{prices_of}
use Rattle.price_ascent.specs.Steps.{IsSlack}
use Rattle.price_ascent.proofs.Changes.{sum-beside}
use Rattle.price_ascent.proofs.LiveSides.{side_number}
use Rattle.price_ascent.proofs.Shares.{shares_fit}
use Rattle.price_ascent.proofs.SlackSums.{share-down_kept, share-up_kept}

-- the share of a side of a live triangle
pub share-high : (n : NetworkParts) (es : List PriceEntry) (t : Tri) (u v : ℕ) → AreEntriesOf n es → IsLiveTriangle n.points (prices_of n es) t → HasSide t u v
    → share n.points n.hull (prices_of n es) u v ≤ℤ pos (1003 * 10 ^ 15)
share-high n es t u v b over side =
    let k = side_number n es t u v b.one_each over side in
    let fit = shares_fit n es k.0 b k.1.0 k.2 in
    ⊎_elim
    (λ l. subst (λ (z : ℤ). z ≤ℤ pos (1003 * 10 ^ 15)) (share-up_kept n es k.0 u v b k.2 k.1 l) fit.up.1)
    (λ le.
    let l : v < u = let apart = corners_differ t u v side.0 side.1 in omega arith in
    subst (λ (z : ℤ). z ≤ℤ pos (1003 * 10 ^ 15)) (share-down_kept n es k.0 u v b k.2 k.1 l) fit.down.1)
    (cases_lt u v)

-- the slack of a triangle beside the share of a side
pub slack-beside : (n : NetworkParts) (es : List PriceEntry) (t : Tri) (u v : ℕ) → AreEntriesOf n es → IsLiveTriangle n.points (prices_of n es) t → HasSide t u v
    → slack n.points n.hull (prices_of n es) t ≤ℤ (share n.points n.hull (prices_of n es) u v +ℤ pos (2006 * 10 ^ 15))
slack-beside n es t u v b over side =
    let all = sum-beside (share n.points n.hull (prices_of n es)) t u v (pos (1003 * 10 ^ 15)) (λ x y s. share-high n es t x y b over s) side in
    omega (arith, ints, all)

-- the least slack of live triangles
pub least_fits : (n : NetworkParts) (es : List PriceEntry) (u v : ℕ) (m : ℤ) → AreEntriesOf n es → IsFeasible n.points n.hull (prices_of n es) → IsLeastSlack n.points n.hull (prices_of n es) u v m
    → IsSlack m
least_fits n es u v m b feasible least =
    ⊎_elim
    (λ (h : ((t : Tri) × IsLiveOn n.points (prices_of n es) u v t × (slack n.points n.hull (prices_of n es) t ≡ m))
    × ((t : Tri) → IsLiveOn n.points (prices_of n es) u v t → m ≤ℤ slack n.points n.hull (prices_of n es) t)).
    let t = h.0.0 in
    let over = h.0.1.1 in
    let is = h.0.2 in
    let low = feasible t over in
    let ab = share-high n es t t.a t.b b over (t.c, inl (refl, refl, refl)) in
    let high = slack-beside n es t t.a t.b b over (t.c, inl (refl, refl, refl)) in
    (omega (arith, ints, is, low), omega (arith, ints, is, high, ab)))
    (λ (h : ((t : Tri) → ¬ IsLiveOn n.points (prices_of n es) u v t) × (m ≡ pos 0)).
    let none = h.1 in
    (omega (arith, ints, none), omega (arith, ints, none)))
    least
