-- Prices as an ascent leaves them: what keeps them such, and how large their anchors are.
use Rattle.std.proofs.Common.{◌≡◌, ℕ, ◌*◌, ◌^◌, ◌<◌, true, List, length, ℤ, pos, ◌+ℤ◌, ◌≤ℤ◌, ◌<ℤ◌, sym, ◌∙◌, subst, arith, ⊎_elim}
use Rattle.std.proofs.lemmas.Bool.{cases_Bool, cases_lt}
use Rattle.std.proofs.lemmas.Int.{by_lt_z, ints}
use Rattle.exact_predicates.specs.declared.tri.Tri.{Tri}
use Rattle.exact_predicates.specs.Hull.{IsHullPair}
use Rattle.exact_predicates.proofs.Corners.{corners_differ}
use Rattle.exact_predicates.proofs.Equalities.{Joins-comm, Joins-ends}
use Rattle.lmt_network.specs.Network.{NetworkParts, edge_at}
use Rattle.lmt_network.specs.Numbers.{HasSide, IsHullNumber, IsNumberOf}
use Rattle.lmt_network.specs.Prices.{IsFeasible, IsLiveTriangle, share}
use Rattle.price_ascent.specs.declared.entry.PriceEntry.{PriceEntry}
use Rattle.price_ascent.specs.Ascent.{IsLiveOn}
use Rattle.price_ascent.specs.Belonging.{AreEntriesOf, AreZeroWhereBare, BelongTo, IsAnchor, IsBareSide, HasNarrowRanges}
use Rattle.price_ascent.specs.Entries.{entry, live_of, prices_of}
use Rattle.price_ascent.proofs.Changed.{hull_of}
use Rattle.price_ascent.proofs.Changes.{sum-beside, sum-beside_up}
use Rattle.price_ascent.proofs.Kept.{kept_price}
use Rattle.price_ascent.proofs.LiveSides.{same_live, side_number}
use Rattle.price_ascent.proofs.Lowering.{inner_off}
use Rattle.price_ascent.proofs.RaisingHull.{hull_gross}
use Rattle.price_ascent.proofs.Shares.{hull_number, inner_number, on_hull, own_shares}
use Rattle.price_ascent.proofs.SlackSums.{share-down_kept, share-up_kept}

-- they stay such where no price rises and no anchor of the hull falls
pub belong_kept : (n : NetworkParts) (es fs : List PriceEntry) → BelongTo n es → AreEntriesOf n fs → AreZeroWhereBare n fs → IsFeasible n.points n.hull (prices_of n fs)
    → ((k : ℕ) → ¬ IsHullNumber n k → (entry fs k).value ≤ℤ (entry es k).value) → ((k : ℕ) → IsHullNumber n k → (entry es k).value ≤ℤ (entry fs k).value) → BelongTo n fs
belong_kept n es fs b entries bare feasible falls rises =
    record {
      entries = entries;
      prices = λ k k_in inner. let old = b.prices k k_in inner in let fall = falls k inner in omega (arith, ints, old, fall);
      anchors = λ k k_in hull. let old = b.anchors k k_in hull in let rise = rises k hull in omega (arith, ints, old, rise);
      bare = bare;
      feasible = feasible;
    }

-- anchors that are 0 where no live triangle is stay so where they and the live edges are the same
pub bare_kept : (n : NetworkParts) (es fs : List PriceEntry) → length es ≡ length n.edges → length fs ≡ length n.edges → live_of fs ≡ live_of es
    → ((k : ℕ) → IsHullNumber n k → (entry fs k).value ≡ (entry es k).value) → ((k : ℕ) → (entry fs k).left ≡ (entry es k).left) → ((k : ℕ) → (entry fs k).right ≡ (entry es k).right)
    → AreZeroWhereBare n es → AreZeroWhereBare n fs
bare_kept n es fs one_es one_fs live values lefts rights z k k_in =
    record {
      hull = λ u v is pair bare. values k (hull_of n k u v is pair) ∙ (z k k_in).hull u v is pair (back u v bare);
      left = λ bare. lefts k ∙ (z k k_in).left (back (edge_at n k).a (edge_at n k).b bare);
      right = λ bare. rights k ∙ (z k k_in).right (back (edge_at n k).b (edge_at n k).a bare);
    }
  where
    back : (u v : ℕ) → IsBareSide n.points (prices_of n fs) u v → IsBareSide n.points (prices_of n es) u v
    back u v bare t on = bare t (on.0, same_live n es fs t one_es one_fs (sym live) on.1)

-- the two shares of a live edge
record AreNarrow (p : PriceEntry) : Type 0 where
  up : p.up ≤ℤ pos (403 * 10 ^ 15)
  down : p.down ≤ℤ pos (3 * 10 ^ 15)

narrow : (n : NetworkParts) (es : List PriceEntry) (e : ℕ) → BelongTo n es → e < length n.edges → (entry es e).live ≡ true → AreNarrow (entry es e)
narrow n es e b e_in live =
    let h = own_shares n es e b.entries e_in live in
    let is = b.entries.each e e_in in
    let light = b.entries.light e e_in live in
    let left = is.left.0 in
    let right = is.right.0 in
    ⊎_elim
    (λ on.
    let y = b.anchors e e_in (hull_number n e on) in
    let up = h.on_up on in
    let down = h.on_down on in
    record { up = omega (arith, ints); down = omega (arith, ints) })
    (λ off.
    let inner = inner_number n e off in
    let low = (is.price inner).0 in
    let high = b.prices e e_in inner in
    let up = h.off_up off in
    let down = h.off_down off in
    record { up = omega (arith, ints); down = omega (arith, ints) })
    (cases_Bool (on_hull n e))

module _ {n : NetworkParts} {es : List PriceEntry} (b : BelongTo n es) (t : Tri) (over : IsLiveTriangle n.points (prices_of n es) t) where
  -- the shares of a live triangle
  low : (x y : ℕ) → HasSide t x y → y < x → share n.points n.hull (prices_of n es) x y ≤ℤ pos (3 * 10 ^ 15)
  low x y side l =
      let k = side_number n es t x y b.entries.one_each over side in
      subst (λ (z : ℤ). z ≤ℤ pos (3 * 10 ^ 15)) (share-down_kept n es k.0 x y b.entries k.2 k.1 l) (narrow n es k.0 b k.1.0 k.2).down

  high : (x y : ℕ) → HasSide t x y → share n.points n.hull (prices_of n es) x y ≤ℤ pos (403 * 10 ^ 15)
  high x y side =
      ⊎_elim
      (λ l. let k = side_number n es t x y b.entries.one_each over side in
      subst (λ (z : ℤ). z ≤ℤ pos (403 * 10 ^ 15)) (share-up_kept n es k.0 x y b.entries k.2 k.1 l) (narrow n es k.0 b k.1.0 k.2).up)
      (λ le.
      let l : y < x = let apart = corners_differ t x y side.0 side.1 in omega arith in
      let small = low x y side l in
      omega (arith, ints, small))
      (cases_lt x y)

  -- so no anchor of their sides is large, since no slack is negative
  any_side : (u v : ℕ) (y : ℤ) → HasSide t u v → (share n.points n.hull (prices_of n es) u v +ℤ y) ≤ℤ pos (3 * 10 ^ 15) → y <ℤ pos (10 ^ 18)
  any_side u v y side gross =
      let all = sum-beside (share n.points n.hull (prices_of n es)) t u v (pos (403 * 10 ^ 15)) high side in
      let some = b.feasible t over in
      omega (arith, ints, all, some, gross)

  up_side : (u v : ℕ) (y : ℤ) → HasSide t u v → u < v → (share n.points n.hull (prices_of n es) u v +ℤ y) ≤ℤ pos (403 * 10 ^ 15) → y <ℤ pos (10 ^ 18)
  up_side u v y side l gross =
      let all = sum-beside_up (share n.points n.hull (prices_of n es)) t u v (pos (3 * 10 ^ 15)) (pos (403 * 10 ^ 15)) high low side l in
      let some = b.feasible t over in
      omega (arith, ints, all, some, gross)

-- an anchor that is small beside a live triangle, and 0 where there is none
small_anchor : (n : NetworkParts) (es : List PriceEntry) (u v : ℕ) (y : ℤ) → ((t : Tri) → IsLiveOn n.points (prices_of n es) u v t → y <ℤ pos (10 ^ 18))
    → (IsBareSide n.points (prices_of n es) u v → y ≡ pos 0) → y <ℤ pos (10 ^ 18)
small_anchor n es u v y beside bare =
    by_lt_z y (pos (10 ^ 18)) (λ l. l)
    (λ large.
    let zero = bare (λ t on. let l = beside t on in absurd (omega (arith, ints, large, l))) in
    omega (arith, ints, zero))

hull_small : (n : NetworkParts) (es : List PriceEntry) (e u v : ℕ) → BelongTo n es → IsNumberOf n u v e → IsHullPair n.hull u v → (entry es e).value <ℤ pos (10 ^ 18)
hull_small n es e u v b is pair =
    small_anchor n es u v (entry es e).value
    (λ t on. any_side b t on.1 u v (entry es e).value on.0 (hull_gross n es e u v b.entries is pair)) ((b.bare e is.0).hull u v is pair)

-- an inner edge that is live
left_small : (n : NetworkParts) (es : List PriceEntry) (e : ℕ) → BelongTo n es → e < length n.edges → (entry es e).live ≡ true → ¬ IsHullNumber n e → (entry es e).left <ℤ pos (10 ^ 18)
left_small n es e b e_in live inner =
    let h = b.entries.each e e_in in
    let light = b.entries.light e e_in live in
    let old = (own_shares n es e b.entries e_in live).off_up (inner_off n e inner) in
    let up = h.up live in
    let low = (h.price inner).0 in
    let x = edge_at n e in
    small_anchor n es x.a x.b (entry es e).left (λ t on. up_side b t on.1 x.a x.b (entry es e).left on.0 x.ascending (omega (arith, ints, old, up, low, light))) (b.bare e e_in).left

right_small : (n : NetworkParts) (es : List PriceEntry) (e : ℕ) → BelongTo n es → e < length n.edges → (entry es e).live ≡ true → ¬ IsHullNumber n e → (entry es e).right <ℤ pos (10 ^ 18)
right_small n es e b e_in live inner =
    let h = b.entries.each e e_in in
    let old = (own_shares n es e b.entries e_in live).off_down (inner_off n e inner) in
    let down = h.down live in
    let high = b.prices e e_in inner in
    let x = edge_at n e in
    small_anchor n es x.b x.a (entry es e).right (λ t on. any_side b t on.1 x.b x.a (entry es e).right on.0 (omega (arith, ints, old, down, high))) (b.bare e e_in).right

-- the anchors of the sides of an edge
side_anchors : (n : NetworkParts) (es : List PriceEntry) (e : ℕ) → BelongTo n es → e < length n.edges → IsAnchor (entry es e).left × IsAnchor (entry es e).right
side_anchors n es e b e_in =
    let h = b.entries.each e e_in in
    let left = h.left.0 in
    let right = h.right.0 in
    ⊎_elim
    (λ on. let is = h.inner on in ((left, left_small n es e b e_in is.0 is.1), (right, right_small n es e b e_in is.0 is.1)))
    (λ off. let zero = h.elsewhere off in let l = zero.0 in let r = zero.1 in ((left, omega (arith, ints, l)), (right, omega (arith, ints, r))))
    (cases_Bool (entry es e).anchored)

-- all amounts are within their limits
pub limits : (n : NetworkParts) (es : List PriceEntry) (e : ℕ) → BelongTo n es → e < length n.edges → HasNarrowRanges n.hull (kept_price n es e)
limits n es e b e_in =
    record {
      price = (b.entries.each e e_in).price;
      anchor = λ hull. (
        b.anchors e e_in hull,
        ⊎_elim
            (λ pair. hull_small n es e (edge_at n e).a (edge_at n e).b b (e_in, Joins-ends (edge_at n e)) pair)
            (λ pair. hull_small n es e (edge_at n e).b (edge_at n e).a b (e_in, Joins-comm (edge_at n e) (edge_at n e).a (edge_at n e).b (Joins-ends (edge_at n e))) pair)
            hull,
      );
      left = (side_anchors n es e b e_in).0;
      right = (side_anchors n es e b e_in).1;
    }
