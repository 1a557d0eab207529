-- A price that falls by the least slack on its right side.
use Rattle.std.proofs.Common.{◌≡◌, ◌≢◌, ℕ, true, false, List, ℤ, pos, ◌+ℤ◌, ◌-ℤ◌, ◌≤ℤ◌, set, refl, ap, sym, ◌∙◌, subst, arith, ⊎_elim, inl, inr}
use Rattle.std.proofs.lemmas.Bool.{cases_Bool, cases_eq, false≢true}
use Rattle.std.proofs.lemmas.Int.{clamps, ints}
use Rattle.std.proofs.lemmas.List.{set-get_or}
use Rattle.exact_predicates.specs.declared.tri.Tri.{Tri}
use Rattle.lmt_network.specs.Network.{NetworkParts, edge_at}
use Rattle.lmt_network.specs.Numbers.{HasSide, IsHullNumber, IsNumberOf}
use Rattle.lmt_network.specs.Prices.{IsFeasible, IsLiveTriangle, share, slack}
use Rattle.price_ascent.specs.declared.entry.PriceEntry.{PriceEntry}
use Rattle.price_ascent.specs.Ascent.{IsLeastSlack, IsLiveOn, lowest}
use Rattle.price_ascent.specs.Belonging.{AreEntriesOf}
use Rattle.price_ascent.specs.Entries.{entry, no_entry, prices_of}
use Rattle.price_ascent.specs.Steps.{lowered}
use Rattle.price_ascent.proofs.Changed.{IsChange, changed_length, entries_changed, live_back, new_entry, share-other, which_side}
use Rattle.price_ascent.proofs.Changes.{AreUpTo, side_or_not, with_side, without_side}
use Rattle.price_ascent.proofs.Equal.{same_entry}
use Rattle.price_ascent.proofs.LiveSides.{side_number}
use Rattle.price_ascent.proofs.Shares.{has_shares, hull_number, on_hull, own_shares}
use Rattle.price_ascent.proofs.SlackBounds.{least_fits}

pub inner_off : (n : NetworkParts) (e : ℕ) → ¬ IsHullNumber n e → on_hull n e ≡ false
inner_off n e inner = ⊎_elim (λ on. absurd (inner (hull_number n e on))) (λ off. off) (cases_Bool (on_hull n e))

-- What lowering the price of the inner edge e by m changes.
pub record IsFall (n : NetworkParts) (es fs : List PriceEntry) (e : ℕ) (m : ℤ) : Type 0 where
  pub change : IsChange n es fs e (lowered (entry es e) m)
  pub feasible : IsFeasible n.points n.hull (prices_of n es)
  pub live : (entry es e).live ≡ true
  pub inner : ¬ IsHullNumber n e
  pub least : IsLeastSlack n.points n.hull (prices_of n es) (edge_at n e).b (edge_at n e).a m

-- how far the price falls
abbrev pub fall : List PriceEntry → ℕ → ℤ → ℤ
fall es e m = (entry es e).value -ℤ (lowered (entry es e) m).value

pub fall_is : (n : NetworkParts) (es fs : List PriceEntry) (e : ℕ) (m : ℤ) → IsFall n es fs e m → (pos 0 ≤ℤ fall es e m) × (fall es e m ≤ℤ m) × (lowest ≤ℤ (lowered (entry es e) m).value)
fall_is n es fs e m f =
    let p = (f.change.entries.each e f.change.e_in).price f.inner in
    let low = p.0 in
    let some = (least_fits n es (edge_at n e).b (edge_at n e).a m f.change.entries f.feasible f.least).0 in
    (omega (arith, ints, clamps, low, some), omega (arith, ints, clamps, low, some), omega (arith, ints, clamps))

-- the shares after the fall
pub shares_fallen : (n : NetworkParts) (es fs : List PriceEntry) (e : ℕ) (m : ℤ) → IsFall n es fs e m
    → ((lowered (entry es e) m).up ≡ share n.points n.hull (prices_of n fs) (edge_at n e).a (edge_at n e).b)
    × ((lowered (entry es e) m).down ≡ share n.points n.hull (prices_of n fs) (edge_at n e).b (edge_at n e).a)
shares_fallen n es fs e m f =
    let c = f.change in
    let off = inner_off n e f.inner in
    let old = own_shares n es e c.entries c.e_in f.live in
    let is = new_entry n es fs e (lowered (entry es e) m) c in
    let new = has_shares n fs e c.entries.network (changed_length n es fs e (lowered (entry es e) m) c) c.e_in (ap (λ (p : PriceEntry). p.live) is ∙ f.live) in
    let old_up = old.off_up off in
    let old_down = old.off_down off in
    let new_up = new.off_up off in
    let new_down = new.off_down off in
    let value = ap (λ (p : PriceEntry). p.value) is in
    let left = ap (λ (p : PriceEntry). p.left) is in
    let right = ap (λ (p : PriceEntry). p.right) is in
    (omega (arith, ints, old_up, new_up, value, left), omega (arith, ints, old_down, new_down, value, right))

-- all other shares of a live triangle are at least what they were
fallen_sides : (n : NetworkParts) (es fs : List PriceEntry) (e : ℕ) (m : ℤ) (t : Tri) → IsFall n es fs e m → IsLiveTriangle n.points (prices_of n es) t
    → AreUpTo (share n.points n.hull (prices_of n es)) (share n.points n.hull (prices_of n fs)) (edge_at n e).b (edge_at n e).a t
fallen_sides n es fs e m t f over u v side =
    let k = side_number n es t u v f.change.entries.one_each over side in
    let s = share n.points n.hull (prices_of n es) in
    let r = share n.points n.hull (prices_of n fs) in
    ⊎_elim
    (λ (same : k.0 ≡ e).
    ⊎_elim
    (λ (p : (u ≡ (edge_at n e).a) × (v ≡ (edge_at n e).b)).
    let old = (f.change.entries.each e f.change.e_in).up f.live in
    let new = (shares_fallen n es fs e m f).0 in
    let some = (fall_is n es fs e m f).0 in
    let more : s (edge_at n e).a (edge_at n e).b ≤ℤ r (edge_at n e).a (edge_at n e).b = omega (arith, ints, old, new, some) in
    inr (subst (λ (x : ℕ). s x v ≤ℤ r x v) (sym p.0) (subst (λ (y : ℕ). s (edge_at n e).a y ≤ℤ r (edge_at n e).a y) (sym p.1) more)))
    (λ (p : (u ≡ (edge_at n e).b) × (v ≡ (edge_at n e).a)). inl p)
    (which_side n e u v (subst (λ (i : ℕ). IsNumberOf n u v i) same k.1)))
    (λ (away : k.0 ≢ e). let is = share-other n es fs e (lowered (entry es e) m) k.0 u v f.change away k.2 k.1 in inr (omega (arith, ints, is)))
    (cases_eq k.0 e)

-- the prices stay feasible
pub fallen_feasible : (n : NetworkParts) (es fs : List PriceEntry) (e : ℕ) (m : ℤ) → IsFall n es fs e m → IsFeasible n.points n.hull (prices_of n fs)
fallen_feasible n es fs e m f t over =
    let c = f.change in
    let a = (edge_at n e).a in
    let b = (edge_at n e).b in
    let s = share n.points n.hull (prices_of n es) in
    let r = share n.points n.hull (prices_of n fs) in
    let was = live_back n es fs e (lowered (entry es e) m) t c over in
    let each = fallen_sides n es fs e m t f was in
    let feasible = f.feasible t was in
    ⊎_elim
    (λ (side : HasSide t b a).
    let old = (c.entries.each e c.e_in).down f.live in
    let new = (shares_fallen n es fs e m f).1 in
    let most = (fall_is n es fs e m f).1 in
    let d = (lowered (entry es e) m).value -ℤ (entry es e).value in
    let drop : (s b a +ℤ d) ≤ℤ r b a = omega (arith, ints, old, new) in
    let all = with_side s r b a d t each drop side in
    ⊎_elim
    (λ (h : ((t : Tri) × IsLiveOn n.points (prices_of n es) b a t × (slack n.points n.hull (prices_of n es) t ≡ m))
    × ((t : Tri) → IsLiveOn n.points (prices_of n es) b a t → m ≤ℤ slack n.points n.hull (prices_of n es) t)).
    let least = h.1 t (side, was) in
    omega (arith, ints, all, least, most))
    (λ (h : ((t : Tri) → ¬ IsLiveOn n.points (prices_of n es) b a t) × (m ≡ pos 0)). absurd (h.0 t (side, was)))
    f.least)
    (λ (none : ¬ HasSide t b a). let all = without_side s r b a t each none in omega (arith, ints, all, feasible))
    (side_or_not t b a)

-- and are entries of the network
pub fallen_entries : (n : NetworkParts) (es fs : List PriceEntry) (e : ℕ) (m : ℤ) → IsFall n es fs e m → AreEntriesOf n fs
fallen_entries n es fs e m f =
    let c = f.change in
    let h = c.entries.each e c.e_in in
    entries_changed n es fs e (lowered (entry es e) m) c
    (record {
      price = λ inner. let high = (h.price inner).1 in let some = (fall_is n es fs e m f).0 in ((fall_is n es fs e m f).2, omega (arith, ints, high, some));
      anchor = λ hull. absurd (f.inner hull);
      left = h.left;
      right = h.right;
      up = λ live. (shares_fallen n es fs e m f).0;
      down = λ live. (shares_fallen n es fs e m f).1;
      killed = λ dead. absurd (false≢true (sym dead ∙ f.live));
      hull_live = h.hull_live;
      inner = h.inner;
      elsewhere = h.elsewhere;
    })

-- where the price does not fall all stays as it is
pub not_fallen : (n : NetworkParts) (es fs : List PriceEntry) (e : ℕ) (m : ℤ) → IsFall n es fs e m → (entry es e).value ≤ℤ (lowered (entry es e) m).value → fs ≡ es
not_fallen n es fs e m f rest =
    let p = entry es e in
    let some = (fall_is n es fs e m f).0 in
    let same : (lowered p m).value ≡ p.value = omega (arith, ints, some, rest) in
    let is : lowered p m ≡ p = same_entry (lowered p m) p same refl refl (omega (arith, ints, same)) (omega (arith, ints, same)) refl refl in
    f.change.is ∙ (ap (set es e) is ∙ set-get_or es e no_entry)
