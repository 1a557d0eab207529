use Rattle.std.proofs.Common.{◌↔◌, Bool, List, Contains, sym, ◌∙◌, subst}
use Rattle.exact_predicates.specs.declared.edge.Edge.{Edge}
use Rattle.lmt_network.specs.Live.{IsHullEdge}
use Rattle.price_ascent.specs.Ascent.{IsTighten}
use Rattle.price_ascent.specs.Entries.{anchored_edges, table_of}
use Rattle.price_ascent.proofs.prices.Prices.ascent.Goals as goal

pub returns-clause-ascent : goal.returns-clause-ascent
returns-clause-ascent c =
    let n = c.args.net.now in
    let flags = c.args.flags.now in
    let first = c.in_ok-prices.prices in
    let swept = c.sweep_all.new.self in
    let last = c.tighten.new.self in
    record {
      first = table_of first;
      swept = table_of swept;
      start = c.in_ok-prices.ensures.start;
      sweep = c.sweep_all.ensures.sweeps;
      tighten = subst (λ (es : List Edge). IsTighten n flags es (table_of swept) (table_of last)) (sym c.tighten.ensures.anchored)
          (subst (λ (bs : List Bool). IsTighten n bs (anchored_edges n swept) (table_of swept) (table_of last)) (c.sweep_all.ensures.live ∙ c.in_ok-prices.ensures.live) c.tighten.ensures.tighten);
    }

pub returns-clause-anchored : goal.returns-clause-anchored
returns-clause-anchored c = λ e.
    let same = c.tighten.ensures.anchored ∙ c.sweep_all.ensures.anchored in
    subst (λ (es : List Edge). Contains es e ↔ (Contains c.args.skeleton.now e × (¬ IsHullEdge c.args.net.now.hull e))) (sym same) (c.in_ok-prices.ensures.anchored e)
