-- Anchors of the hull, raised.
use Rattle.std.proofs.Common.{◌≡◌, ℕ, ◌*◌, ◌^◌, true, List, ℤ, pos, ◌+ℤ◌, ◌-ℤ◌, ◌≤ℤ◌, ap, sym, ◌∙◌, subst, arith, ⊎_elim}
use Rattle.std.proofs.lemmas.Bool.{false≢true}
use Rattle.std.proofs.lemmas.Int.{ints}
use Rattle.exact_predicates.specs.Hull.{IsHullPair}
use Rattle.lmt_network.specs.Network.{NetworkParts, edge_at}
use Rattle.lmt_network.specs.Numbers.{HasSide, IsHullNumber, IsNumberOf}
use Rattle.lmt_network.specs.Prices.{IsFeasible, share}
use Rattle.lmt_network.proofs.Entries.{is_on_hull_decides}
use Rattle.price_ascent.specs.declared.entry.PriceEntry.{PriceEntry}
use Rattle.price_ascent.specs.Ascent.{IsLeastSlack}
use Rattle.price_ascent.specs.Belonging.{AreEntriesOf, IsBareSide, IsZeroWhereBare}
use Rattle.price_ascent.specs.Entries.{entry, prices_of}
use Rattle.price_ascent.specs.Steps.{hull_raised}
use Rattle.price_ascent.proofs.Changed.{IsChange, entries_changed, hull_of, new_entry, which_side}
use Rattle.price_ascent.proofs.LiveSides.{none_outside}
use Rattle.price_ascent.proofs.Rises.{IsRise, bare_least, raised-fits, same_or_turned}
use Rattle.price_ascent.proofs.Shares.{on_hull, own_shares}
use Rattle.price_ascent.proofs.Raising.{AreNewShares, new_shares}

pub hull_on : (n : NetworkParts) (e : ℕ) → IsHullNumber n e → on_hull n e ≡ true
hull_on n e hull = (is_on_hull_decides n.hull (edge_at n e).a (edge_at n e).b).1 hull

hull_shares : (n : NetworkParts) (es fs : List PriceEntry) (e : ℕ) (m : ℤ) → IsChange n es fs e (hull_raised (entry es e) m) → (entry es e).live ≡ true → IsHullNumber n e
    → AreNewShares n fs e (hull_raised (entry es e) m)
hull_shares n es fs e m c live hull =
    let on = hull_on n e hull in
    let old = own_shares n es e c.entries c.e_in live in
    let new = new_shares n es fs e (hull_raised (entry es e) m) c live in
    let value = ap (λ (p : PriceEntry). p.value) (new_entry n es fs e (hull_raised (entry es e) m) c) in
    let old_up = old.on_up on in
    let old_down = old.on_down on in
    let new_up = new.on_up on in
    let new_down = new.on_down on in
    (omega (arith, ints, old_up, new_up, value), omega (arith, ints, old_down, new_down, value))

-- a pair of the hull
pub hull_rise : (n : NetworkParts) (es fs : List PriceEntry) (e u v : ℕ) (m : ℤ) → IsChange n es fs e (hull_raised (entry es e) m) → IsFeasible n.points n.hull (prices_of n es) → (entry es e).live ≡ true → IsNumberOf n u v e → IsHullPair n.hull u v
    → IsLeastSlack n.points n.hull (prices_of n es) u v m → IsRise n es fs e u v m (hull_raised (entry es e) m)
hull_rise n es fs e u v m c feasible live is pair least =
    let old_up = (c.entries.each e c.e_in).up live in
    let old_down = (c.entries.each e c.e_in).down live in
    let new = hull_shares n es fs e m c live (hull_of n e u v is pair) in
    let new_up = new.0 in
    let new_down = new.1 in
    let f = share n.points n.hull (prices_of n es) in
    let g = share n.points n.hull (prices_of n fs) in
    let a = (edge_at n e).a in
    let b = (edge_at n e).b in
    let up : g a b ≡ f a b -ℤ m = omega (arith, ints, old_up, new_up) in
    let down : g b a ≡ f b a -ℤ m = omega (arith, ints, old_down, new_down) in
    record {
      change = c;
      feasible = feasible;
      number = is;
      live = live;
      least = least;
      less = ⊎_elim
          (λ (s : (u ≡ a) × (v ≡ b)). subst (λ (x : ℕ). g x v ≡ f x v -ℤ m) (sym s.0) (subst (λ (y : ℕ). g a y ≡ f a y -ℤ m) (sym s.1) up))
          (λ (s : (u ≡ b) × (v ≡ a)). subst (λ (x : ℕ). g x v ≡ f x v -ℤ m) (sym s.0) (subst (λ (y : ℕ). g b y ≡ f b y -ℤ m) (sym s.1) down))
          (which_side n e u v is);
      back = λ t over side. absurd (none_outside n t u v c.entries.network pair over.empty side);
    }

-- a bare pair of the edge leaves no slack to take
hull_bare : (n : NetworkParts) (es : List PriceEntry) (e u v p q : ℕ) (m : ℤ) → AreEntriesOf n es → IsNumberOf n u v e → IsHullPair n.hull u v → IsNumberOf n p q e → IsHullPair n.hull p q
    → IsLeastSlack n.points n.hull (prices_of n es) u v m → IsBareSide n.points (prices_of n es) p q → m ≡ pos 0
hull_bare n es e u v p q m b is pair other other_pair least bare =
    bare_least n es u v m least
    (λ t on. ⊎_elim
    (λ (s : (p ≡ u) × (q ≡ v)). bare t (subst (λ (x : ℕ). HasSide t x q) (sym s.0) (subst (λ (y : ℕ). HasSide t u y) (sym s.1) on.0), on.1))
    (λ (s : (p ≡ v) × (q ≡ u)).
    none_outside n t p q b.network other_pair on.1.empty (subst (λ (x : ℕ). HasSide t x p) (sym s.1) (subst (λ (y : ℕ). HasSide t u y) (sym s.0) on.0)))
    (same_or_turned n e u v p q is other))

-- what a side of the hull gives and its anchor together
pub hull_gross : (n : NetworkParts) (es : List PriceEntry) (e u v : ℕ) → AreEntriesOf n es → IsNumberOf n u v e → IsHullPair n.hull u v
    → (share n.points n.hull (prices_of n es) u v +ℤ (entry es e).value) ≤ℤ pos (3 * 10 ^ 15)
hull_gross n es e u v entries is pair =
    let h = entries.each e is.0 in
    let hull = hull_of n e u v is pair in
    let live = h.hull_live hull in
    let a = (edge_at n e).a in
    let b = (edge_at n e).b in
    let f = share n.points n.hull (prices_of n es) in
    let y = (entry es e).value in
    let light = entries.light e is.0 live in
    let own = own_shares n es e entries is.0 live in
    let old_up = own.on_up (hull_on n e hull) in
    let old_down = own.on_down (hull_on n e hull) in
    let up = h.up live in
    let down = h.down live in
    let gross_up : (f a b +ℤ y) ≤ℤ pos (3 * 10 ^ 15) = omega (arith, ints, old_up, up, light) in
    let gross_down : (f b a +ℤ y) ≤ℤ pos (3 * 10 ^ 15) = omega (arith, ints, old_down, down, light) in
    ⊎_elim
    (λ (s : (u ≡ a) × (v ≡ b)). subst (λ (z : ℕ). (f z v +ℤ y) ≤ℤ pos (3 * 10 ^ 15)) (sym s.0) (subst (λ (z : ℕ). (f a z +ℤ y) ≤ℤ pos (3 * 10 ^ 15)) (sym s.1) gross_up))
    (λ (s : (u ≡ b) × (v ≡ a)). subst (λ (z : ℕ). (f z v +ℤ y) ≤ℤ pos (3 * 10 ^ 15)) (sym s.0) (subst (λ (z : ℕ). (f b z +ℤ y) ≤ℤ pos (3 * 10 ^ 15)) (sym s.1) gross_down))
    (which_side n e u v is)

pub hull_entries : (n : NetworkParts) (es fs : List PriceEntry) (e u v : ℕ) (m : ℤ) → IsChange n es fs e (hull_raised (entry es e) m) → IsFeasible n.points n.hull (prices_of n es) → (entry es e).live ≡ true → IsNumberOf n u v e → IsHullPair n.hull u v
    → IsLeastSlack n.points n.hull (prices_of n es) u v m → AreEntriesOf n fs
hull_entries n es fs e u v m c feasible live is pair least =
    let h = c.entries.each e c.e_in in
    let hull = hull_of n e u v is pair in
    let whole = hull_gross n es e u v c.entries is pair in
    let y = (entry es e).value in
    let gross : (share n.points n.hull (prices_of n es) u v +ℤ y) ≤ℤ pos (403 * 10 ^ 15) = omega (arith, ints, whole) in
    let low = (h.anchor hull).0 in
    let fits = raised-fits n es u v m y c.entries feasible least (h.anchor hull).1 gross in
    let more = fits.0 in
    entries_changed n es fs e (hull_raised (entry es e) m) c
    (record {
      price = λ inner. absurd (inner hull);
      anchor = λ on. (omega (arith, ints, low, more), fits.1);
      left = h.left;
      right = h.right;
      up = λ alive. (hull_shares n es fs e m c live hull).0;
      down = λ alive. (hull_shares n es fs e m c live hull).1;
      killed = λ dead. absurd (false≢true (sym dead ∙ live));
      hull_live = h.hull_live;
      inner = h.inner;
      elsewhere = h.elsewhere;
    })

pub hull_zero : (n : NetworkParts) (es : List PriceEntry) (e u v : ℕ) (m : ℤ) → AreEntriesOf n es → IsNumberOf n u v e → IsHullPair n.hull u v → IsLeastSlack n.points n.hull (prices_of n es) u v m
    → IsZeroWhereBare n (prices_of n es) e (entry es e) → IsZeroWhereBare n (prices_of n es) e (hull_raised (entry es e) m)
hull_zero n es e u v m b is pair least z =
    record {
      hull = λ p q other other_pair none.
          let zero = z.hull p q other other_pair none in
          let least_zero = hull_bare n es e u v p q m b is pair other other_pair least none in
          omega (arith, ints, zero, least_zero);
      left = z.left;
      right = z.right;
    }
