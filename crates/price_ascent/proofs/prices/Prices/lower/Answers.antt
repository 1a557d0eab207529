use Rattle.std.proofs.Common.{◌≡◌, ◌↔◌, ℕ, ◌*◌, ◌^◌, ◌<◌, false, ℤ, pos, ◌-ℤ◌, ◌≤ℤ◌, arith, length, set, Contains, of_z, to_z, w64, refl, ap, sym, ◌∙◌, subst}
use Rattle.std.specs.Int.Signed.{lt_z}
use Rattle.std.proofs.lemmas.Int.{ints}
use Rattle.exact_predicates.specs.declared.edge.Edge.{Edge}
use Rattle.lmt_network.specs.Network.{tri_at}
use Rattle.lmt_network.specs.Numbers.{HasSide}
use Rattle.price_ascent.specs.Ascent.{IsLeastSlack, lowest}
use Rattle.price_ascent.specs.declared.entry.PriceEntry.{PriceEntry}
use Rattle.price_ascent.specs.Belonging.{IsPrice}
use Rattle.price_ascent.specs.Entries.{entry, prices_of}
use Rattle.price_ascent.specs.Steps.{AreShares, IsSlack, lowered}
use Rattle.price_ascent.proofs.Ends.{least_is}
use Rattle.price_ascent.proofs.Lowering.{IsFall, fall_is, fallen_entries, fallen_feasible, not_fallen}
use Rattle.price_ascent.proofs.Shares.{shares_fit}
use Rattle.price_ascent.proofs.SlackBounds.{least_fits}
use Rattle.price_ascent.proofs.prices.Prices.lower.Goals as goal

pub least_slack-least-requires-clause-row : goal.least_slack-least-requires-clause-row
least_slack-least-requires-clause-row c =
    subst (λ (x : Edge). (t : ℕ) → Contains c.right.result.now t ↔ ((t < length c.args.net.now.tris) × HasSide (tri_at c.args.net.now t) x.b x.a)) (sym c.edge-edge.ensures.value)
    c.right.ensures.members

pub lowered-fallen-requires-clause-price : goal.lowered-fallen-requires-clause-price
lowered-fallen-requires-clause-price c =
    subst (λ (p : PriceEntry). IsPrice p.value) (sym c.at-kept.ensures) ((c.requires.entries.each c.args.e c.requires.e_in).price c.requires.inner)

pub lowered-fallen-requires-clause-shares : goal.lowered-fallen-requires-clause-shares
lowered-fallen-requires-clause-shares c = subst AreShares (sym c.at-kept.ensures) (shares_fit c.args.net.now c.args.self.now c.args.e c.requires.entries c.requires.e_in c.requires.live)

pub lowered-fallen-requires-clause-m : goal.lowered-fallen-requires-clause-m
lowered-fallen-requires-clause-m c =
    let fits = least_fits c.args.net.now c.args.self.now _ _ c.least_slack-least.result c.requires.entries c.requires.feasible c.least_slack-least.ensures in
    subst IsSlack (sym (least_is c.least_slack-least.result fits)) fits

-- the price has fallen
the_fall : (c : goal.After-keep) → IsFall c.args.net.now c.args.self.now c.keep.new.self c.args.e c.least_slack-least.result
the_fall c =
    let m = c.least_slack-least.result in
    let p = entry c.args.self.now c.args.e in
    let fits = least_fits c.args.net.now c.args.self.now _ _ m c.requires.entries c.requires.feasible c.least_slack-least.ensures in
    let is : c.lowered-fallen.result ≡ lowered p m = c.lowered-fallen.ensures ∙ (ap (λ (q : PriceEntry). lowered q (to_z w64 (of_z w64 m))) c.at-kept.ensures ∙ ap (lowered p) (least_is m fits)) in
    record {
      change = record { entries = c.requires.entries; e_in = c.requires.e_in; is = c.keep.ensures ∙ ap (set c.args.self.now c.args.e) is; live = refl };
      feasible = c.requires.feasible;
      live = c.requires.live;
      inner = c.requires.inner;
      least = subst (λ (x : Edge). IsLeastSlack c.args.net.now.points c.args.net.now.hull (prices_of c.args.net.now c.args.self.now) x.b x.a m) c.edge-edge.ensures.value c.least_slack-least.ensures;
    }

-- a price that has not become less, counted in 64 bits
at_least : (a b : ℤ) → lt_z a b ≡ false → b ≤ℤ a
at_least a b h = grind (arith, ints)

not_less : (x y p q : ℤ) → x ≡ p → y ≡ q → lowest ≤ℤ p → lowest ≤ℤ q → q ≤ℤ pos (4 * 10 ^ 17) → pos 0 ≤ℤ (q -ℤ p) → lt_z (to_z w64 (of_z w64 x)) (to_z w64 (of_z w64 y)) ≡ false → q ≤ℤ p
not_less x y p q x_is y_is p_low q_low q_high fall h =
    let l : to_z w64 (of_z w64 y) ≤ℤ to_z w64 (of_z w64 x) = at_least (to_z w64 (of_z w64 x)) (to_z w64 (of_z w64 y)) h in
    let x_fits : to_z w64 (of_z w64 x) ≡ p = omega (arith, ints, x_is, p_low, q_high, fall) in
    let y_fits : to_z w64 (of_z w64 y) ≡ q = omega (arith, ints, y_is, q_low, q_high) in
    omega (arith, ints, l, x_fits, y_fits)

pub returns-clause-entries : goal.returns-clause-entries
returns-clause-entries c = fallen_entries c.args.net.now c.args.self.now c.keep.new.self c.args.e c.least_slack-least.result (the_fall c)

pub returns-clause-feasible : goal.returns-clause-feasible
returns-clause-feasible c = fallen_feasible c.args.net.now c.args.self.now c.keep.new.self c.args.e c.least_slack-least.result (the_fall c)

pub returns-clause-lowered : goal.returns-clause-lowered
returns-clause-lowered c = let f = the_fall c in record { m = c.least_slack-least.result; least = f.least; entry_is = f.change.is }

pub returns-clause-at_rest : goal.returns-clause-at_rest
returns-clause-at_rest c = λ rest.
    let m = c.least_slack-least.result in
    let p = entry c.args.self.now c.args.e in
    let f = the_fall c in
    let fits = least_fits c.args.net.now c.args.self.now _ _ m c.requires.entries c.requires.feasible c.least_slack-least.ensures in
    let fallen : c.lowered-fallen.result ≡ lowered p m = c.lowered-fallen.ensures ∙ (ap (λ (q : PriceEntry). lowered q (to_z w64 (of_z w64 m))) c.at-kept.ensures ∙ ap (lowered p) (least_is m fits)) in
    let price = (c.requires.entries.each c.args.e c.requires.e_in).price c.requires.inner in
    let some = (fall_is c.args.net.now c.args.self.now c.keep.new.self c.args.e m f).0 in
    not_fallen c.args.net.now c.args.self.now c.keep.new.self c.args.e m f
    (not_less _ _ (lowered p m).value p.value (ap (λ (q : PriceEntry). q.value) fallen) (ap (λ (q : PriceEntry). q.value) c.at-kept.ensures)
    (fall_is c.args.net.now c.args.self.now c.keep.new.self c.args.e m f).2 price.0 price.1 some rest)
