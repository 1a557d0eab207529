use Rattle.std.proofs.Common.{◌≡◌, ◌<◌, ℕ, Bool, true, false, List, length, set, ℤ, of_z, to_z, w64, refl, ap, sym, ◌∙◌, subst, arith, ⊎_elim}
use Rattle.std.specs.Prelude.{◌↔◌}
use Rattle.std.proofs.lemmas.Bool.{cases_Bool, false≢true}
use Rattle.std.proofs.lemmas.Int.{ints}
use Rattle.lmt_network.specs.Flags.{live_edges}
use Rattle.lmt_network.specs.Network.{NetworkParts}
use Rattle.lmt_network.specs.Numbers.{IsHullNumber}
use Rattle.price_ascent.specs.declared.entry.PriceEntry.{PriceEntry}
use Rattle.price_ascent.specs.Belonging.{AreEntriesOf, IsHullAnchor, IsSideAnchor, IsWithinRanges}
use Rattle.price_ascent.specs.Entries.{entry, with_amounts}
use Rattle.price_ascent.specs.Steps.{AreShares, repriced}
use Rattle.price_ascent.proofs.Kept.{live_at}
use Rattle.price_ascent.proofs.RaisingHull.{hull_on}
use Rattle.price_ascent.proofs.Repricing.{IsRepriced, live_below, repriced_anchored, repriced_edge, repriced_entries, repriced_live, repriced_others}
use Rattle.price_ascent.proofs.Shares.{hull_number, inner_number, on_hull, shares_fit}
use Rattle.price_ascent.proofs.prices.Prices.put.Goals as goal

-- the value of an edge, in the ranges of a report or as raising leaves it
value_fits : (n : NetworkParts) (es : List PriceEntry) (e : ℕ) → AreEntriesOf n es → e < length n.edges → IsHullAnchor (entry es e).value
value_fits n es e b e_in =
    let h = b.each e e_in in
    ⊎_elim
    (λ on. h.anchor (hull_number n e on))
    (λ off. let p = h.price (inner_number n e off) in let low = p.0 in let high = p.1 in (omega (arith, ints, low), omega (arith, ints, high)))
    (cases_Bool (on_hull n e))

value_in : (n : NetworkParts) (e : ℕ) (value left right : ℤ) → IsWithinRanges n.hull (with_amounts n e value left right) → IsHullAnchor value
value_in n e value left right r =
    ⊎_elim
    (λ on. let y = r.anchor (hull_number n e on) in let low = y.0 in let high = y.1 in (omega (arith, ints, low), omega (arith, ints, high)))
    (λ off. let p = r.price (inner_number n e off) in let low = p.0 in let high = p.1 in (omega (arith, ints, low), omega (arith, ints, high)))
    (cases_Bool (on_hull n e))

-- the test of the hull is the one of the shares
same_test : (n : NetworkParts) (e : ℕ) (b : Bool) → (b ≡ true) ↔ IsHullNumber n e → b ≡ on_hull n e
same_test n e true is = sym (hull_on n e (is.0 refl))
same_test n e false is = ⊎_elim (λ on. absurd (false≢true (is.1 (hull_number n e on)))) (λ off. sym off) (cases_Bool (on_hull n e))

pub repriced-requires-clause-shares : goal.repriced-requires-clause-shares
repriced-requires-clause-shares c =
    let live = sym (live_at c.args.self.now c.args.e) ∙ c.requires.live in
    subst AreShares (sym c.at-kept.ensures)
    (shares_fit c.args.net.now c.args.self.now c.args.e c.requires.entries (live_below c.args.net.now c.args.self.now c.args.e c.requires.entries live) live)

pub repriced-requires-clause-kept_value : goal.repriced-requires-clause-kept_value
repriced-requires-clause-kept_value c =
    let live = sym (live_at c.args.self.now c.args.e) ∙ c.requires.live in
    subst (λ (p : PriceEntry). IsHullAnchor p.value) (sym c.at-kept.ensures)
    (value_fits c.args.net.now c.args.self.now c.args.e c.requires.entries (live_below c.args.net.now c.args.self.now c.args.e c.requires.entries live))

pub repriced-requires-clause-kept_left : goal.repriced-requires-clause-kept_left
repriced-requires-clause-kept_left c =
    let live = sym (live_at c.args.self.now c.args.e) ∙ c.requires.live in
    subst (λ (p : PriceEntry). IsSideAnchor p.left) (sym c.at-kept.ensures)
    (c.requires.entries.each c.args.e (live_below c.args.net.now c.args.self.now c.args.e c.requires.entries live)).left

pub repriced-requires-clause-value : goal.repriced-requires-clause-value
repriced-requires-clause-value c =
    let fits = value_in c.args.net.now c.args.e c.args.value c.args.left c.args.right c.requires.ranges in
    let low = fits.0 in
    let high = fits.1 in
    (omega (arith, ints, low, high), omega (arith, ints, low, high))

pub keep-requires : goal.keep-requires
keep-requires c =
    let live = sym (live_at c.args.self.now c.args.e) ∙ c.requires.live in
    let l = live_below c.args.net.now c.args.self.now c.args.e c.requires.entries live in
    let one = c.requires.entries.one_each in
    omega arith

-- the amounts are set
set_anew : (c : goal.After-keep) → IsRepriced c.args.net.now c.args.self.now c.keep.new.self c.args.e c.args.value c.args.left c.args.right
set_anew c =
    let n = c.args.net.now in
    let es = c.args.self.now in
    let e = c.args.e in
    let live = sym (live_at es e) ∙ c.requires.live in
    let fits = value_in n e c.args.value c.args.left c.args.right c.requires.ranges in
    let low = fits.0 in
    let high = fits.1 in
    let l0 = c.requires.ranges.left.0 in
    let l1 = c.requires.ranges.left.1 in
    let r0 = c.requires.ranges.right.0 in
    let r1 = c.requires.ranges.right.1 in
    let value : to_z w64 (of_z w64 c.args.value) ≡ c.args.value = omega (arith, ints, low, high) in
    let left : to_z w64 (of_z w64 c.args.left) ≡ c.args.left = omega (arith, ints, l0, l1) in
    let right : to_z w64 (of_z w64 c.args.right) ≡ c.args.right = omega (arith, ints, r0, r1) in
    let hull = same_test n e c.is_hull.result c.is_hull.ensures in
    let is : c.repriced.result ≡ repriced (entry es e) (on_hull n e) c.args.value c.args.left c.args.right
    = c.repriced.ensures
    ∙ (ap (λ (p : PriceEntry). repriced p c.is_hull.result (to_z w64 (of_z w64 c.args.value)) (to_z w64 (of_z w64 c.args.left)) (to_z w64 (of_z w64 c.args.right))) c.at-kept.ensures
    ∙ (ap (λ (b : Bool). repriced (entry es e) b (to_z w64 (of_z w64 c.args.value)) (to_z w64 (of_z w64 c.args.left)) (to_z w64 (of_z w64 c.args.right))) hull
    ∙ (ap (λ (x : ℤ). repriced (entry es e) (on_hull n e) x (to_z w64 (of_z w64 c.args.left)) (to_z w64 (of_z w64 c.args.right))) value
    ∙ (ap (λ (x : ℤ). repriced (entry es e) (on_hull n e) c.args.value x (to_z w64 (of_z w64 c.args.right))) left
    ∙ ap (repriced (entry es e) (on_hull n e) c.args.value c.args.left) right)))) in
    record {
      change = record { entries = c.requires.entries; e_in = live_below n es e c.requires.entries live; is = c.keep.ensures ∙ ap (set es e) is; live = refl };
      live = live;
      ranges = c.requires.ranges;
      elsewhere = c.requires.elsewhere;
    }

pub returns : goal.returns
returns c =
    let r = set_anew c in
    record {
      entries = repriced_entries r;
      edge = repriced_edge r;
      others = repriced_others r;
      live = repriced_live r;
      anchored = ap (live_edges c.args.net.now) (repriced_anchored r);
    }
