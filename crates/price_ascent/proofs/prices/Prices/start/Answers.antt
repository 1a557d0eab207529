use Rattle.std.proofs.Common.{◌≡◌, ℕ, ◌*◌, ◌^◌, ◌<◌, Bool, true, false, List, length, get_or, All, Contains, sym, ◌∙◌, subst}
use Rattle.length_enclosure.specs.Enclosure.{weight}
use Rattle.lmt_network.specs.Flags.{live_edges, live_numbers}
use Rattle.lmt_network.specs.Network.{IsNetwork, NetworkParts, edge_at}
use Rattle.lmt_network.specs.Numbers.{AreLive}
use Rattle.lmt_network.specs.PriceTables.{PriceTable}
use Rattle.lmt_network.proofs.Picked.{flag_from_live}
use Rattle.price_ascent.specs.declared.entry.PriceEntry.{PriceEntry}
use Rattle.price_ascent.specs.Ascent.{IsStart}
use Rattle.price_ascent.specs.Entries.{entry}
use Rattle.price_ascent.specs.Steps.{start_entry}
use Rattle.price_ascent.proofs.Starting.{AreFirst, first_belong, first_live, first_start, none_yet}
use Rattle.price_ascent.proofs.prices.Prices.start.Goals as goal

first : (n : NetworkParts) (flags : List Bool) (es xs : List PriceEntry) → es ≡ xs → IsNetwork n → length xs ≡ length n.edges → length flags ≡ length n.edges
    → ((e : ℕ) → e < length n.edges → entry xs e ≡ start_entry n flags e)
    → ((e : ℕ) → e < length n.edges → get_or flags e false ≡ true → weight n.points ((edge_at n e).a, (edge_at n e).b) < 3 * 10 ^ 15)
    → AreLive n (live_numbers flags) → AreFirst n flags es
first n flags es xs is net one_each flag_each each light live =
    subst (AreFirst n flags) (sym is)
    (record { network = net; one_each = one_each; flag_each = flag_each; each = each; light = light; hull_live = λ e e_in hull. flag_from_live flags e (live.hull_edges e e_in hull) })

pub anchor_all-requires-clause-belong : goal.anchor_all-requires-clause-belong
anchor_all-requires-clause-belong c =
    let d = c.in_ok-first_entries.ensures in
    first_belong c.args.net.now c.args.flags.now c.of-prices.result
    (first c.args.net.now c.args.flags.now c.of-prices.result _ c.of-prices.ensures c.first_entries.ensures.network d.one_each c.requires.one_each d.each d.light c.requires.live)

pub anchor_all-requires-clause-skeleton : goal.anchor_all-requires-clause-skeleton
anchor_all-requires-clause-skeleton c =
    let d = c.in_ok-first_entries.ensures in
    subst (λ (bs : List Bool). All (Contains (live_edges c.args.net.now bs)) c.args.skeleton.now)
    (sym (first_live c.args.net.now c.args.flags.now c.of-prices.result
    (first c.args.net.now c.args.flags.now c.of-prices.result _ c.of-prices.ensures c.first_entries.ensures.network d.one_each c.requires.one_each d.each d.light c.requires.live)))
    c.requires.skeleton

pub anchor_all-requires-clause-none_yet : goal.anchor_all-requires-clause-none_yet
anchor_all-requires-clause-none_yet c = λ e.
    let d = c.in_ok-first_entries.ensures in
    none_yet c.args.net.now c.args.flags.now c.of-prices.result e
    (first c.args.net.now c.args.flags.now c.of-prices.result _ c.of-prices.ensures c.first_entries.ensures.network d.one_each c.requires.one_each d.each d.light c.requires.live)

pub returns-clause-start : goal.returns-clause-start
returns-clause-start c =
    let d = c.in_ok-first_entries.ensures in
    subst (λ (t : PriceTable). IsStart c.args.net.now c.args.flags.now t) (sym c.anchor_all.ensures.same)
    (first_start c.args.net.now c.args.flags.now c.of-prices.result
    (first c.args.net.now c.args.flags.now c.of-prices.result _ c.of-prices.ensures c.first_entries.ensures.network d.one_each c.requires.one_each d.each d.light c.requires.live))

pub returns-clause-live : goal.returns-clause-live
returns-clause-live c =
    let d = c.in_ok-first_entries.ensures in
    c.anchor_all.ensures.live
    ∙ first_live c.args.net.now c.args.flags.now c.of-prices.result
    (first c.args.net.now c.args.flags.now c.of-prices.result _ c.of-prices.ensures c.first_entries.ensures.network d.one_each c.requires.one_each d.each d.light c.requires.live)
