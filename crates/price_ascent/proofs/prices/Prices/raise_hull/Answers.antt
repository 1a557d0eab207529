use Rattle.std.proofs.Common.{◌≡◌, set, of_z, to_z, w64, ap, sym, ◌∙◌, subst}
use Rattle.price_ascent.specs.declared.entry.PriceEntry.{PriceEntry}
use Rattle.price_ascent.specs.Belonging.{IsHullAnchor}
use Rattle.price_ascent.specs.Entries.{entry}
use Rattle.price_ascent.specs.Steps.{AreShares, IsSlack, hull_raised}
use Rattle.price_ascent.proofs.Changed.{hull_of}
use Rattle.price_ascent.proofs.Ends.{hull_number_there, least_is}
use Rattle.price_ascent.proofs.Shares.{shares_fit}
use Rattle.price_ascent.proofs.SlackBounds.{least_fits}
use Rattle.price_ascent.proofs.prices.Prices.raise_hull.Goals as goal

pub number-e-requires : goal.number-e-requires
number-e-requires c = hull_number_there c.args.net.now c.args.u c.args.v c.requires.entries.network c.requires.pair

pub hull_raised-requires-clause-anchor : goal.hull_raised-requires-clause-anchor
hull_raised-requires-clause-anchor c =
    let e = c.number-e.result in
    let is = c.number-e.ensures in
    subst (λ (p : PriceEntry). IsHullAnchor p.value) (sym c.at-kept.ensures)
    ((c.requires.entries.each e is.0).anchor (hull_of c.args.net.now e c.args.u c.args.v is c.requires.pair))

pub hull_raised-requires-clause-shares : goal.hull_raised-requires-clause-shares
hull_raised-requires-clause-shares c =
    let e = c.number-e.result in
    let is = c.number-e.ensures in
    let live = (c.requires.entries.each e is.0).hull_live (hull_of c.args.net.now e c.args.u c.args.v is c.requires.pair) in
    subst AreShares (sym c.at-kept.ensures) (shares_fit c.args.net.now c.args.self.now e c.requires.entries is.0 live)

pub hull_raised-requires-clause-m : goal.hull_raised-requires-clause-m
hull_raised-requires-clause-m c =
    let fits = least_fits c.args.net.now c.args.self.now c.args.u c.args.v c.least_slack-least.result c.requires.entries c.requires.feasible c.least_slack-least.ensures in
    subst IsSlack (sym (least_is c.least_slack-least.result fits)) fits

pub returns : goal.returns
returns c =
    let m = c.least_slack-least.result in
    let p = entry c.args.self.now c.number-e.result in
    let fits = least_fits c.args.net.now c.args.self.now c.args.u c.args.v m c.requires.entries c.requires.feasible c.least_slack-least.ensures in
    let is : c.hull_raised.result ≡ hull_raised p m = c.hull_raised.ensures ∙ (ap (λ (q : PriceEntry). hull_raised q (to_z w64 (of_z w64 m))) c.at-kept.ensures ∙ ap (hull_raised p) (least_is m fits)) in
    (c.number-e.result, c.number-e.ensures, record { m = m; least = c.least_slack-least.ensures; entry_is = c.keep.ensures ∙ ap (set c.args.self.now c.number-e.result) is })
