-- An anchor that is raised by the least slack of its side.
use Rattle.std.proofs.Common.{◌≡◌, ◌≢◌, ◌⊎◌, ℕ, ◌*◌, ◌^◌, true, List, ℤ, pos, ◌+ℤ◌, ◌-ℤ◌, ◌≤ℤ◌, sym, ◌∙◌, subst, arith, ⊎_elim, inl, inr}
use Rattle.std.proofs.lemmas.Bool.{cases_eq}
use Rattle.std.proofs.lemmas.Int.{ints}
use Rattle.exact_predicates.specs.declared.tri.Tri.{Tri}
use Rattle.lmt_network.specs.Network.{NetworkParts}
use Rattle.lmt_network.specs.Numbers.{HasSide, IsNumberOf}
use Rattle.lmt_network.specs.Prices.{IsFeasible, IsLiveTriangle, share, slack}
use Rattle.price_ascent.specs.declared.entry.PriceEntry.{PriceEntry}
use Rattle.price_ascent.specs.Ascent.{IsLeastSlack, IsLiveOn}
use Rattle.price_ascent.specs.Belonging.{AreEntriesOf, IsBareSide, most_raised}
use Rattle.price_ascent.specs.Entries.{entry, prices_of}
use Rattle.price_ascent.proofs.Changed.{IsChange, live_back, share-other, which_side}
use Rattle.price_ascent.proofs.Changes.{AreUpTo, side_or_not, with_side, without_side}
use Rattle.price_ascent.proofs.LiveSides.{side_number}
use Rattle.price_ascent.proofs.SlackBounds.{least_fits, slack-beside}

-- What a raise of the anchor of the side u to v of the edge e changes: the share of this side alone.
pub record IsRise (n : NetworkParts) (es fs : List PriceEntry) (e u v : ℕ) (m : ℤ) (x : PriceEntry) : Type 0 where
  pub change : IsChange n es fs e x
  pub feasible : IsFeasible n.points n.hull (prices_of n es)
  pub number : IsNumberOf n u v e
  pub live : (entry es e).live ≡ true
  pub least : IsLeastSlack n.points n.hull (prices_of n es) u v m
  pub less : share n.points n.hull (prices_of n fs) u v ≡ share n.points n.hull (prices_of n es) u v -ℤ m
  pub back : (t : Tri) → IsLiveTriangle n.points (prices_of n es) t → HasSide t v u
      → share n.points n.hull (prices_of n fs) v u ≡ share n.points n.hull (prices_of n es) v u

-- two sides of one edge are the same or turned
pub same_or_turned : (n : NetworkParts) (e u v p q : ℕ) → IsNumberOf n u v e → IsNumberOf n p q e → ((p ≡ u) × (q ≡ v)) ⊎ ((p ≡ v) × (q ≡ u))
same_or_turned n e u v p q is other =
    ⊎_elim
    (λ s. ⊎_elim
    (λ t. inl (t.0 ∙ sym s.0, t.1 ∙ sym s.1))
    (λ t. inr (t.0 ∙ sym s.1, t.1 ∙ sym s.0))
    (which_side n e p q other))
    (λ s. ⊎_elim
    (λ t. inr (t.0 ∙ sym s.1, t.1 ∙ sym s.0))
    (λ t. inl (t.0 ∙ sym s.0, t.1 ∙ sym s.1))
    (which_side n e p q other))
    (which_side n e u v is)

-- the shares of all other sides of a live triangle stay
risen_sides : (n : NetworkParts) (es fs : List PriceEntry) (e u v : ℕ) (m : ℤ) (x : PriceEntry) (t : Tri) → IsRise n es fs e u v m x → IsLiveTriangle n.points (prices_of n es) t
    → (p q : ℕ) → HasSide t p q → ((p ≡ u) × (q ≡ v)) ⊎ (share n.points n.hull (prices_of n fs) p q ≡ share n.points n.hull (prices_of n es) p q)
risen_sides n es fs e u v m x t r over p q side =
    let k = side_number n es t p q r.change.entries.one_each over side in
    let f = share n.points n.hull (prices_of n es) in
    let g = share n.points n.hull (prices_of n fs) in
    ⊎_elim
    (λ (same : k.0 ≡ e).
    ⊎_elim
    (λ (s : (p ≡ u) × (q ≡ v)). inl s)
    (λ (s : (p ≡ v) × (q ≡ u)).
    let turned : HasSide t v u = subst (λ (y : ℕ). HasSide t y u) s.0 (subst (λ (y : ℕ). HasSide t p y) s.1 side) in
    inr (subst (λ (y : ℕ). g y q ≡ f y q) (sym s.0) (subst (λ (y : ℕ). g v y ≡ f v y) (sym s.1) (r.back t over turned))))
    (same_or_turned n e u v p q r.number (subst (λ (i : ℕ). IsNumberOf n p q i) same k.1)))
    (λ (away : k.0 ≢ e). inr (share-other n es fs e x k.0 p q r.change away k.2 k.1))
    (cases_eq k.0 e)

-- what a raise does to the slacks of live triangles
pub record AreRisen (n : NetworkParts) (es fs : List PriceEntry) (u v : ℕ) (m : ℤ) : Type 0 where
  pub feasible : IsFeasible n.points n.hull (prices_of n fs)
  pub never : (t : Tri) → IsLiveTriangle n.points (prices_of n es) t → slack n.points n.hull (prices_of n fs) t ≤ℤ slack n.points n.hull (prices_of n es) t
  pub drops : (t : Tri) → IsLiveTriangle n.points (prices_of n es) t → HasSide t u v → (slack n.points n.hull (prices_of n fs) t +ℤ m) ≤ℤ slack n.points n.hull (prices_of n es) t

risen_drops : (n : NetworkParts) (es fs : List PriceEntry) (e u v : ℕ) (m : ℤ) (x : PriceEntry) (t : Tri) → IsRise n es fs e u v m x → IsLiveTriangle n.points (prices_of n es) t
    → HasSide t u v → (slack n.points n.hull (prices_of n fs) t +ℤ m) ≤ℤ slack n.points n.hull (prices_of n es) t
risen_drops n es fs e u v m x t r over side =
    let f = share n.points n.hull (prices_of n es) in
    let g = share n.points n.hull (prices_of n fs) in
    let less = r.less in
    with_side g f u v m t
    (λ p q s. ⊎_elim (λ i. inl i) (λ (is : g p q ≡ f p q). inr (omega (arith, ints, is))) (risen_sides n es fs e u v m x t r over p q s))
    (omega (arith, ints, less)) side

pub risen : (n : NetworkParts) (es fs : List PriceEntry) (e u v : ℕ) (m : ℤ) (x : PriceEntry) → IsRise n es fs e u v m x → AreRisen n es fs u v m
risen n es fs e u v m x r =
    let f = share n.points n.hull (prices_of n es) in
    let g = share n.points n.hull (prices_of n fs) in
    record {
      feasible = λ t over.
          let was = live_back n es fs e x t r.change over in
          let each : AreUpTo f g u v t = λ p q s. ⊎_elim (λ i. inl i) (λ (is : g p q ≡ f p q). inr (omega (arith, ints, is))) (risen_sides n es fs e u v m x t r was p q s) in
          let old = r.feasible t was in
          ⊎_elim
          (λ (side : HasSide t u v).
          let less = r.less in
          let all = with_side f g u v (pos 0 -ℤ m) t each (omega (arith, ints, less)) side in
          ⊎_elim
          (λ (h : ((t : Tri) × IsLiveOn n.points (prices_of n es) u v t × (slack n.points n.hull (prices_of n es) t ≡ m))
          × ((t : Tri) → IsLiveOn n.points (prices_of n es) u v t → m ≤ℤ slack n.points n.hull (prices_of n es) t)).
          let least = h.1 t (side, was) in
          omega (arith, ints, all, least))
          (λ (h : ((t : Tri) → ¬ IsLiveOn n.points (prices_of n es) u v t) × (m ≡ pos 0)). absurd (h.0 t (side, was)))
          r.least)
          (λ (none : ¬ HasSide t u v). let all = without_side f g u v t each none in omega (arith, ints, all, old))
          (side_or_not t u v);
      never = λ t over.
          ⊎_elim
          (λ (side : HasSide t u v).
          let drop = risen_drops n es fs e u v m x t r over side in
          let some = (least_fits n es u v m r.change.entries r.feasible r.least).0 in
          omega (arith, ints, drop, some))
          (λ (none : ¬ HasSide t u v). without_side g f u v t
          (λ p q s. ⊎_elim (λ i. inl i) (λ (is : g p q ≡ f p q). inr (omega (arith, ints, is))) (risen_sides n es fs e u v m x t r over p q s))
          none)
          (side_or_not t u v);
      drops = λ t over side. risen_drops n es fs e u v m x t r over side;
    }

-- where no live triangle has the side, the least slack is 0
pub bare_least : (n : NetworkParts) (es : List PriceEntry) (u v : ℕ) (m : ℤ) → IsLeastSlack n.points n.hull (prices_of n es) u v m → IsBareSide n.points (prices_of n es) u v → m ≡ pos 0
bare_least n es u v m least bare =
    ⊎_elim
    (λ (h : ((t : Tri) × IsLiveOn n.points (prices_of n es) u v t × (slack n.points n.hull (prices_of n es) t ≡ m))
    × ((t : Tri) → IsLiveOn n.points (prices_of n es) u v t → m ≤ℤ slack n.points n.hull (prices_of n es) t)). absurd (bare h.0.0 h.0.1))
    (λ (h : ((t : Tri) → ¬ IsLiveOn n.points (prices_of n es) u v t) × (m ≡ pos 0)). h.1)
    least

-- a raised anchor is no less than it was, and within its range
pub raised-fits : (n : NetworkParts) (es : List PriceEntry) (u v : ℕ) (m y : ℤ) → AreEntriesOf n es → IsFeasible n.points n.hull (prices_of n es) → IsLeastSlack n.points n.hull (prices_of n es) u v m
    → y ≤ℤ pos most_raised → (share n.points n.hull (prices_of n es) u v +ℤ y) ≤ℤ pos (403 * 10 ^ 15) → (y ≤ℤ (y +ℤ m)) × ((y +ℤ m) ≤ℤ pos most_raised)
raised-fits n es u v m y b feasible least high gross =
    let some = (least_fits n es u v m b feasible least).0 in
    ⊎_elim
    (λ (h : ((t : Tri) × IsLiveOn n.points (prices_of n es) u v t × (slack n.points n.hull (prices_of n es) t ≡ m))
    × ((t : Tri) → IsLiveOn n.points (prices_of n es) u v t → m ≤ℤ slack n.points n.hull (prices_of n es) t)).
    let is = h.0.2 in
    let beside = slack-beside n es h.0.0 u v b h.0.1.1 h.0.1.0 in
    (omega (arith, ints, some), omega (arith, ints, is, beside, gross)))
    (λ (h : ((t : Tri) → ¬ IsLiveOn n.points (prices_of n es) u v t) × (m ≡ pos 0)).
    let none = h.1 in
    (omega (arith, ints, some), omega (arith, ints, none, high)))
    least
