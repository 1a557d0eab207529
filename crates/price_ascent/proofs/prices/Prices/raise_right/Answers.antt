use Rattle.std.proofs.Common.{◌≡◌, ◌↔◌, ℕ, ◌<◌, length, set, Contains, of_z, to_z, w64, ap, sym, ◌∙◌, subst}
use Rattle.exact_predicates.specs.declared.edge.Edge.{Edge}
use Rattle.lmt_network.specs.Network.{tri_at}
use Rattle.lmt_network.specs.Numbers.{HasSide}
use Rattle.price_ascent.specs.declared.entry.PriceEntry.{PriceEntry}
use Rattle.price_ascent.specs.Ascent.{IsLeastSlack}
use Rattle.price_ascent.specs.Belonging.{IsSideAnchor}
use Rattle.price_ascent.specs.Entries.{entry, prices_of}
use Rattle.price_ascent.specs.Steps.{AreShares, IsSlack, right_raised}
use Rattle.price_ascent.proofs.Ends.{least_is}
use Rattle.price_ascent.proofs.Shares.{shares_fit}
use Rattle.price_ascent.proofs.SlackBounds.{least_fits}
use Rattle.price_ascent.proofs.prices.Prices.raise_right.Goals as goal

pub least_slack-least-requires-clause-row : goal.least_slack-least-requires-clause-row
least_slack-least-requires-clause-row c =
    subst (λ (x : Edge). (t : ℕ) → Contains c.right.result.now t ↔ ((t < length c.args.net.now.tris) × HasSide (tri_at c.args.net.now t) x.b x.a)) (sym c.edge-edge.ensures.value)
    c.right.ensures.members

pub right_raised-requires-clause-anchor : goal.right_raised-requires-clause-anchor
right_raised-requires-clause-anchor c =
    subst (λ (p : PriceEntry). IsSideAnchor p.right) (sym c.at-kept.ensures) (c.requires.entries.each c.args.e c.requires.e_in).right

pub right_raised-requires-clause-shares : goal.right_raised-requires-clause-shares
right_raised-requires-clause-shares c =
    let inner = (c.requires.entries.each c.args.e c.requires.e_in).inner c.requires.anchored in
    subst AreShares (sym c.at-kept.ensures) (shares_fit c.args.net.now c.args.self.now c.args.e c.requires.entries c.requires.e_in inner.0)

pub right_raised-requires-clause-m : goal.right_raised-requires-clause-m
right_raised-requires-clause-m c =
    let fits = least_fits c.args.net.now c.args.self.now _ _ c.least_slack-least.result c.requires.entries c.requires.feasible c.least_slack-least.ensures in
    subst IsSlack (sym (least_is c.least_slack-least.result fits)) fits

pub returns : goal.returns
returns c =
    let m = c.least_slack-least.result in
    let p = entry c.args.self.now c.args.e in
    let fits = least_fits c.args.net.now c.args.self.now _ _ m c.requires.entries c.requires.feasible c.least_slack-least.ensures in
    let is : c.right_raised.result ≡ right_raised p m = c.right_raised.ensures ∙ (ap (λ (q : PriceEntry). right_raised q (to_z w64 (of_z w64 m))) c.at-kept.ensures ∙ ap (right_raised p) (least_is m fits)) in
    record {
      m = m;
      least = subst (λ (x : Edge). IsLeastSlack c.args.net.now.points c.args.net.now.hull (prices_of c.args.net.now c.args.self.now) x.b x.a m) c.edge-edge.ensures.value c.least_slack-least.ensures;
      entry_is = c.keep.ensures ∙ ap (set c.args.self.now c.args.e) is;
    }
