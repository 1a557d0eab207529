-- The slack of a live triangle, from what is kept of its sides.
use Rattle.std.proofs.Common.{◌≡◌, ℕ, ◌<◌, true, cond, nat_lt, List, ◌+ℤ◌, ap, sym, ◌∙◌, arith, ⊎_elim, inl, inr}
use Rattle.std.proofs.lemmas.Bool.{cases_lt, cond-false, cond-true, le-ltb, lt-ltb}
use Rattle.lmt_network.specs.Network.{NetworkParts, edge_at, tri_at}
use Rattle.lmt_network.specs.Numbers.{IsNumberOf}
use Rattle.lmt_network.specs.Prices.{share}
use Rattle.price_ascent.specs.declared.entry.PriceEntry.{PriceEntry}
use Rattle.price_ascent.specs.Belonging.{AreEntriesOf}
use Rattle.price_ascent.specs.Entries.{entry, prices_of}
use Rattle.price_ascent.specs.Steps.{AreSidesLive, slack_at}

-- the share of a side that goes up
pub share-up_kept : (n : NetworkParts) (es : List PriceEntry) (e u v : ℕ) → AreEntriesOf n es → (entry es e).live ≡ true → IsNumberOf n u v e → u < v
    → (entry es e).up ≡ share n.points n.hull (prices_of n es) u v
share-up_kept n es e u v b live is l =
    let s = share n.points n.hull (prices_of n es) in
    let low : (edge_at n e).a ≡ u = is.1.0 ∙ omega arith in
    let high : (edge_at n e).b ≡ v = is.1.1 ∙ omega arith in
    (b.each e is.0).up live ∙ (ap (λ x. s x (edge_at n e).b) low ∙ ap (λ y. s u y) high)

-- and of one that goes down
pub share-down_kept : (n : NetworkParts) (es : List PriceEntry) (e u v : ℕ) → AreEntriesOf n es → (entry es e).live ≡ true → IsNumberOf n u v e → v < u
    → (entry es e).down ≡ share n.points n.hull (prices_of n es) u v
share-down_kept n es e u v b live is l =
    let s = share n.points n.hull (prices_of n es) in
    let low : (edge_at n e).a ≡ v = is.1.0 ∙ omega arith in
    let high : (edge_at n e).b ≡ u = is.1.1 ∙ omega arith in
    (b.each e is.0).down live ∙ (ap (λ x. s (edge_at n e).b x) low ∙ ap (λ y. s y v) high)

-- the slack of a triangle whose sides have these numbers
pub slack-kept : (n : NetworkParts) (es : List PriceEntry) (t i j k : ℕ) → AreEntriesOf n es → AreSidesLive n es t
    → IsNumberOf n (tri_at n t).a (tri_at n t).b i → IsNumberOf n (tri_at n t).b (tri_at n t).c j → IsNumberOf n (tri_at n t).c (tri_at n t).a k
    → slack_at n es t ≡ (entry es i).up +ℤ (cond (nat_lt (tri_at n t).b (tri_at n t).c) (entry es j).up (entry es j).down +ℤ (entry es k).down)
slack-kept n es t i j k b live ab bc ca =
    let x = tri_at n t in
    let s = share n.points n.hull (prices_of n es) in
    let first = share-up_kept n es i x.a x.b b (live i (inl ab)) ab x.below_b in
    let last = share-down_kept n es k x.c x.a b (live k (inr (inr ca))) ca x.below_c in
    let second : cond (nat_lt x.b x.c) (entry es j).up (entry es j).down ≡ s x.b x.c
    = ⊎_elim
    (λ l. cond-true (nat_lt x.b x.c) _ _ (lt-ltb x.b x.c l) ∙ share-up_kept n es j x.b x.c b (live j (inr (inl bc))) bc l)
    (λ le.
    let l : x.c < x.b = let apart = x.apart in omega arith in
    cond-false (nat_lt x.b x.c) _ _ (le-ltb x.b x.c le) ∙ share-down_kept n es j x.b x.c b (live j (inr (inl bc))) bc l)
    (cases_lt x.b x.c) in
    ap (λ z. z +ℤ (s x.b x.c +ℤ s x.c x.a)) (sym first) ∙ (ap (λ z. (entry es i).up +ℤ (z +ℤ s x.c x.a)) (sym second) ∙ ap (λ z. (entry es i).up +ℤ (cond (nat_lt x.b x.c) (entry es j).up (entry es j).down +ℤ z)) (sym last))
