-- The least slack of a row of triangles.
use Rattle.std.proofs.Common.{◌≡◌, ◌⊎◌, ◌↔◌, ℕ, ◌+◌, ◌<◌, ◌≤◌, List, length, slice_index, Contains, Option, None, Some, unwrap_or, ℤ, pos, ◌≤ℤ◌, refl, ap, sym, ◌∙◌, subst, arith, below_more, ⊎_elim, inl, inr}
use Rattle.std.proofs.lemmas.Int.{ints}
use Rattle.std.proofs.lemmas.List.{get_or_default}
use Rattle.std.proofs.lemmas.List.Elements.{Contains-get_or}
use Rattle.exact_predicates.specs.declared.tri.Tri.{Tri}
use Rattle.lmt_network.specs.Network.{NetworkParts, tri_at}
use Rattle.lmt_network.specs.Numbers.{HasSide}
use Rattle.lmt_network.specs.Prices.{slack}
use Rattle.price_ascent.specs.declared.entry.PriceEntry.{PriceEntry}
use Rattle.price_ascent.specs.Ascent.{IsLeastSlack, IsLiveOn}
use Rattle.price_ascent.specs.Belonging.{AreEntriesOf}
use Rattle.price_ascent.specs.Entries.{prices_of}
use Rattle.price_ascent.specs.Steps.{AreSidesLive, IsLeastUpto, slack_at}
use Rattle.price_ascent.proofs.LiveSides.{live_triangle, tri_of, triangle_live}

-- one more triangle that is not live
pub least_kept : (n : NetworkParts) (es : List PriceEntry) (row : List ℕ) (i : ℕ) (least : Option ℤ) → IsLeastUpto n es row i least → ¬ AreSidesLive n es (slice_index row i) → IsLeastUpto n es row (i + 1) least
least_kept n es row i None h dead = below_more (λ k. ¬ AreSidesLive n es (slice_index row k)) i h dead
least_kept n es row i (Some m) h dead = (
  (h.0.0, omega (arith, h.0.1), h.0.2, h.0.3),
  below_more (λ k. AreSidesLive n es (slice_index row k) → m ≤ℤ slack_at n es (slice_index row k)) i h.1 (λ live. absurd (dead live)),
)

-- one more that is live
pub least_more : (n : NetworkParts) (es : List PriceEntry) (row : List ℕ) (i : ℕ) (least : Option ℤ) (r : ℤ) → IsLeastUpto n es row i least → AreSidesLive n es (slice_index row i)
    → r ≤ℤ slack_at n es (slice_index row i) → ((m : ℤ) → least ≡ Some m → r ≤ℤ m) → (r ≡ slack_at n es (slice_index row i)) ⊎ (least ≡ Some r)
    → IsLeastUpto n es row (i + 1) (Some r)
least_more n es row i None r h live low below one = (
  ⊎_elim
      (λ (e : r ≡ slack_at n es (slice_index row i)). (i, omega arith, live, sym e))
      (λ (e : None ≡ Some r). cc)
      one,
  below_more (λ k. AreSidesLive n es (slice_index row k) → r ≤ℤ slack_at n es (slice_index row k)) i (λ k l alive. absurd (h k l alive)) (λ alive. low),
)
least_more n es row i (Some m) r h live low below one =
    let less = below m refl in (
      ⊎_elim
          (λ (e : r ≡ slack_at n es (slice_index row i)). (i, omega arith, live, sym e))
          (λ (e : Some m ≡ Some r). let same : m ≡ r = cc in (h.0.0, omega (arith, h.0.1), h.0.2, h.0.3 ∙ same))
          one,
      below_more (λ k. AreSidesLive n es (slice_index row k) → r ≤ℤ slack_at n es (slice_index row k)) i
          (λ k l alive. let more = h.1 k l alive in omega (arith, ints, less, more))
          (λ alive. low),
    )

-- the whole row of a side has the live triangles with this side
pub least_all : (n : NetworkParts) (es : List PriceEntry) (row : List ℕ) (u v i : ℕ) (least : Option ℤ) → AreEntriesOf n es
    → ((t : ℕ) → Contains row t ↔ ((t < length n.tris) × HasSide (tri_at n t) u v)) → length row ≤ i → i ≤ length row → IsLeastUpto n es row i least
    → IsLeastSlack n.points n.hull (prices_of n es) u v (unwrap_or least (pos 0))
least_all n es row u v i least b members all within h = at least h
  where
    -- the place in the row of a live triangle
    place : (t : Tri) → IsLiveOn n.points (prices_of n es) u v t → (k : ℕ) × (k < i) × AreSidesLive n es (slice_index row k) × (slack_at n es (slice_index row k) ≡ slack n.points n.hull (prices_of n es) t)
    place t on =
        let (x, x_in, is) = tri_of n es t b.network b.one_each on.1 in
        let side : HasSide (tri_at n x) u v = subst (λ (y : Tri). HasSide y u v) (sym is) on.0 in
        let (k, k_in, at_k) = (members x).1 (x_in, side) in
        let same : slice_index row k ≡ x = get_or_default row k 0 x k_in ∙ at_k in
        let alive : AreSidesLive n es x = triangle_live n es x b.network b.one_each x_in (subst (λ (y : Tri). IsLiveOn n.points (prices_of n es) u v y) (sym is) on).1 in
        (k, omega arith, subst (AreSidesLive n es) (sym same) alive, ap (slack_at n es) same ∙ ap (slack n.points n.hull (prices_of n es)) is)

    -- the live triangle at a place of the row
    on_side : (k : ℕ) → k < i → AreSidesLive n es (slice_index row k) → IsLiveOn n.points (prices_of n es) u v (tri_at n (slice_index row k))
    on_side k l alive =
        let h = (members (slice_index row k)).0 (Contains-get_or row k 0 (omega arith)) in
        (h.1, live_triangle n es (slice_index row k) b.network b.one_each h.0 alive)

    at : (least : Option ℤ) → IsLeastUpto n es row i least → IsLeastSlack n.points n.hull (prices_of n es) u v (unwrap_or least (pos 0))
    at None h = inr (λ t on. let p = place t on in h p.0 p.1 p.2, refl)
    at (Some m) h = inl (
      (tri_at n (slice_index row h.0.0), on_side h.0.0 h.0.1 h.0.2, h.0.3),
      λ t on. let p = place t on in subst (λ (z : ℤ). m ≤ℤ z) p.3 (h.1 p.0 p.1 p.2),
    )
