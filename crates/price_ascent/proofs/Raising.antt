-- Anchors of inner edges, raised.
use Rattle.std.proofs.Common.{◌≡◌, ℕ, true, List, ℤ, ap, sym, ◌∙◌, arith}
use Rattle.std.proofs.lemmas.Bool.{false≢true}
use Rattle.std.proofs.lemmas.Int.{ints}
use Rattle.exact_predicates.proofs.Equalities.{Joins-comm, Joins-ends}
use Rattle.lmt_network.specs.Network.{NetworkParts, edge_at}
use Rattle.lmt_network.specs.Numbers.{IsHullNumber}
use Rattle.lmt_network.specs.Prices.{IsFeasible, share}
use Rattle.price_ascent.specs.declared.entry.PriceEntry.{PriceEntry}
use Rattle.price_ascent.specs.Ascent.{IsLeastSlack}
use Rattle.price_ascent.specs.Belonging.{AreEntriesOf, IsZeroWhereBare}
use Rattle.price_ascent.specs.Entries.{entry, prices_of}
use Rattle.price_ascent.specs.Steps.{left_raised, right_raised}
use Rattle.price_ascent.proofs.Changed.{IsChange, changed_length, entries_changed, new_entry}
use Rattle.price_ascent.proofs.Lowering.{inner_off}
use Rattle.price_ascent.proofs.Rises.{IsRise, bare_least, raised-fits}
use Rattle.price_ascent.proofs.Shares.{HasShares, has_shares, own_shares}

-- the shares of the new entry
pub new_shares : (n : NetworkParts) (es fs : List PriceEntry) (e : ℕ) (x : PriceEntry) → IsChange n es fs e x → (entry es e).live ≡ true
    → HasShares n fs e (share n.points n.hull (prices_of n fs) (edge_at n e).a (edge_at n e).b) (share n.points n.hull (prices_of n fs) (edge_at n e).b (edge_at n e).a)
new_shares n es fs e x c live =
    has_shares n fs e c.entries.network (changed_length n es fs e x c) c.e_in (ap (λ (p : PriceEntry). p.live) (new_entry n es fs e x c) ∙ (c.live ∙ live))

-- the shares of both sides after a raise
abbrev pub AreNewShares : NetworkParts → List PriceEntry → ℕ → PriceEntry → Type 0
AreNewShares n fs e x =
    (x.up ≡ share n.points n.hull (prices_of n fs) (edge_at n e).a (edge_at n e).b)
    × (x.down ≡ share n.points n.hull (prices_of n fs) (edge_at n e).b (edge_at n e).a)

left_shares : (n : NetworkParts) (es fs : List PriceEntry) (e : ℕ) (m : ℤ) → IsChange n es fs e (left_raised (entry es e) m) → (entry es e).live ≡ true → ¬ IsHullNumber n e
    → AreNewShares n fs e (left_raised (entry es e) m)
left_shares n es fs e m c live inner =
    let off = inner_off n e inner in
    let old = own_shares n es e c.entries c.e_in live in
    let new = new_shares n es fs e (left_raised (entry es e) m) c live in
    let is = new_entry n es fs e (left_raised (entry es e) m) c in
    let value = ap (λ (p : PriceEntry). p.value) is in
    let left = ap (λ (p : PriceEntry). p.left) is in
    let right = ap (λ (p : PriceEntry). p.right) is in
    let old_up = old.off_up off in
    let old_down = old.off_down off in
    let new_up = new.off_up off in
    let new_down = new.off_down off in
    (omega (arith, ints, old_up, new_up, value, left), omega (arith, ints, old_down, new_down, value, right))

right_shares : (n : NetworkParts) (es fs : List PriceEntry) (e : ℕ) (m : ℤ) → IsChange n es fs e (right_raised (entry es e) m) → (entry es e).live ≡ true → ¬ IsHullNumber n e
    → AreNewShares n fs e (right_raised (entry es e) m)
right_shares n es fs e m c live inner =
    let off = inner_off n e inner in
    let old = own_shares n es e c.entries c.e_in live in
    let new = new_shares n es fs e (right_raised (entry es e) m) c live in
    let is = new_entry n es fs e (right_raised (entry es e) m) c in
    let value = ap (λ (p : PriceEntry). p.value) is in
    let left = ap (λ (p : PriceEntry). p.left) is in
    let right = ap (λ (p : PriceEntry). p.right) is in
    let old_up = old.off_up off in
    let old_down = old.off_down off in
    let new_up = new.off_up off in
    let new_down = new.off_down off in
    (omega (arith, ints, old_up, new_up, value, left), omega (arith, ints, old_down, new_down, value, right))

-- the left side of an inner edge
pub left_rise : (n : NetworkParts) (es fs : List PriceEntry) (e : ℕ) (m : ℤ) → IsChange n es fs e (left_raised (entry es e) m) → IsFeasible n.points n.hull (prices_of n es) → (entry es e).live ≡ true → ¬ IsHullNumber n e
    → IsLeastSlack n.points n.hull (prices_of n es) (edge_at n e).a (edge_at n e).b m
    → IsRise n es fs e (edge_at n e).a (edge_at n e).b m (left_raised (entry es e) m)
left_rise n es fs e m c feasible live inner least =
    let old_up = (c.entries.each e c.e_in).up live in
    let old_down = (c.entries.each e c.e_in).down live in
    let new = left_shares n es fs e m c live inner in
    let new_up = new.0 in
    let new_down = new.1 in
    record {
      change = c;
      feasible = feasible;
      number = (c.e_in, Joins-ends (edge_at n e));
      live = live;
      least = least;
      less = omega (arith, ints, old_up, new_up);
      back = λ t over side. sym new_down ∙ old_down;
    }

pub left_entries : (n : NetworkParts) (es fs : List PriceEntry) (e : ℕ) (m : ℤ) → IsChange n es fs e (left_raised (entry es e) m) → IsFeasible n.points n.hull (prices_of n es) → (entry es e).live ≡ true → (entry es e).anchored ≡ true → ¬ IsHullNumber n e
    → IsLeastSlack n.points n.hull (prices_of n es) (edge_at n e).a (edge_at n e).b m → AreEntriesOf n fs
left_entries n es fs e m c feasible live anchored inner least =
    let h = c.entries.each e c.e_in in
    let old = (own_shares n es e c.entries c.e_in live).off_up (inner_off n e inner) in
    let up = h.up live in
    let low = (h.price inner).0 in
    let light = c.entries.light e c.e_in live in
    let zero = h.left.0 in
    let fits = raised-fits n es (edge_at n e).a (edge_at n e).b m (entry es e).left c.entries feasible least h.left.1 (omega (arith, ints, old, up, low, light)) in
    let more = fits.0 in
    entries_changed n es fs e (left_raised (entry es e) m) c
    (record {
      price = h.price;
      anchor = h.anchor;
      left = (omega (arith, ints, zero, more), fits.1);
      right = h.right;
      up = λ alive. (left_shares n es fs e m c live inner).0;
      down = λ alive. (left_shares n es fs e m c live inner).1;
      killed = h.killed;
      hull_live = h.hull_live;
      inner = h.inner;
      elsewhere = λ not. absurd (false≢true (sym not ∙ anchored));
    })

pub left_bare : (n : NetworkParts) (es : List PriceEntry) (e : ℕ) (m : ℤ) → IsLeastSlack n.points n.hull (prices_of n es) (edge_at n e).a (edge_at n e).b m
    → IsZeroWhereBare n (prices_of n es) e (entry es e) → IsZeroWhereBare n (prices_of n es) e (left_raised (entry es e) m)
left_bare n es e m least z =
    record {
      hull = z.hull;
      left = λ none.
          let zero = z.left none in
          let least_zero = bare_least n es (edge_at n e).a (edge_at n e).b m least none in
          omega (arith, ints, zero, least_zero);
      right = z.right;
    }

-- the right side of an inner edge
pub right_rise : (n : NetworkParts) (es fs : List PriceEntry) (e : ℕ) (m : ℤ) → IsChange n es fs e (right_raised (entry es e) m) → IsFeasible n.points n.hull (prices_of n es) → (entry es e).live ≡ true → ¬ IsHullNumber n e
    → IsLeastSlack n.points n.hull (prices_of n es) (edge_at n e).b (edge_at n e).a m
    → IsRise n es fs e (edge_at n e).b (edge_at n e).a m (right_raised (entry es e) m)
right_rise n es fs e m c feasible live inner least =
    let old_up = (c.entries.each e c.e_in).up live in
    let old_down = (c.entries.each e c.e_in).down live in
    let new = right_shares n es fs e m c live inner in
    let new_up = new.0 in
    let new_down = new.1 in
    record {
      change = c;
      feasible = feasible;
      number = (c.e_in, Joins-comm (edge_at n e) (edge_at n e).a (edge_at n e).b (Joins-ends (edge_at n e)));
      live = live;
      least = least;
      less = omega (arith, ints, old_down, new_down);
      back = λ t over side. sym new_up ∙ old_up;
    }

pub right_entries : (n : NetworkParts) (es fs : List PriceEntry) (e : ℕ) (m : ℤ) → IsChange n es fs e (right_raised (entry es e) m) → IsFeasible n.points n.hull (prices_of n es) → (entry es e).live ≡ true → (entry es e).anchored ≡ true → ¬ IsHullNumber n e
    → IsLeastSlack n.points n.hull (prices_of n es) (edge_at n e).b (edge_at n e).a m → AreEntriesOf n fs
right_entries n es fs e m c feasible live anchored inner least =
    let h = c.entries.each e c.e_in in
    let old = (own_shares n es e c.entries c.e_in live).off_down (inner_off n e inner) in
    let down = h.down live in
    let high = (h.price inner).1 in
    let zero = h.right.0 in
    let fits = raised-fits n es (edge_at n e).b (edge_at n e).a m (entry es e).right c.entries feasible least h.right.1 (omega (arith, ints, old, down, high)) in
    let more = fits.0 in
    entries_changed n es fs e (right_raised (entry es e) m) c
    (record {
      price = h.price;
      anchor = h.anchor;
      left = h.left;
      right = (omega (arith, ints, zero, more), fits.1);
      up = λ alive. (right_shares n es fs e m c live inner).0;
      down = λ alive. (right_shares n es fs e m c live inner).1;
      killed = h.killed;
      hull_live = h.hull_live;
      inner = h.inner;
      elsewhere = λ not. absurd (false≢true (sym not ∙ anchored));
    })

pub right_bare : (n : NetworkParts) (es : List PriceEntry) (e : ℕ) (m : ℤ) → IsLeastSlack n.points n.hull (prices_of n es) (edge_at n e).b (edge_at n e).a m
    → IsZeroWhereBare n (prices_of n es) e (entry es e) → IsZeroWhereBare n (prices_of n es) e (right_raised (entry es e) m)
right_bare n es e m least z =
    record {
      hull = z.hull;
      left = z.left;
      right = λ none.
          let zero = z.right none in
          let least_zero = bare_least n es (edge_at n e).b (edge_at n e).a m least none in
          omega (arith, ints, zero, least_zero);
    }
