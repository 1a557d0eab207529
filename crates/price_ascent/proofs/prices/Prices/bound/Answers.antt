use Rattle.std.proofs.Common.{◌≡◌, ◌≤◌, ◌<◌, length, arith}
use Rattle.std.proofs.lemmas.Int.{ints}
use Rattle.lmt_network.specs.Prices.{bound}
use Rattle.price_ascent.specs.Entries.{prices_of}
use Rattle.price_ascent.proofs.AnchorSums.{anchors_all, anchors_next, anchors_none}
use Rattle.price_ascent.proofs.PriceLists.{are_prices, below_of_skeleton, below_with_anchored, within_limits}
use Rattle.price_ascent.proofs.prices.Prices.bound.Goals as goal
use Rattle.price_ascent.proofs.prices.Prices.bound.Goals.{After-loop-e}

pub loop-e-init : goal.loop-e-init
loop-e-init c =
    record {
      total = anchors_all c.args.net.now c.args.self.now;
      low = omega (arith, ints);
      high = omega (arith, ints);
      of_ascent = λ b. (omega (arith, ints), omega (arith, ints));
    }

pub loop-e-preserved : goal.loop-e-preserved
loop-e-preserved c =
    let n = c.args.net.now in
    let es = c.args.self.now in
    let e = c.loop-e.e in
    let e_in : e < length n.edges = let l = c.loop-e-test.true in let is = c.edges-e-end.ensures.value in omega (arith, l, is) in
    let few = c.requires.entries.network.few_edges in
    let next = anchors_next n es e c.requires.entries e_in in
    let total = c.loop-e.invariant.total in
    let low = c.loop-e.invariant.low in
    let high = c.loop-e.invariant.high in
    let value = c.anchors-sum.ensures.value in
    let more_low = c.anchors-sum.ensures.low in
    let more_high = c.anchors-sum.ensures.high in
    let sum_is = c.loop-e.sum-is in
    record {
      total = omega (arith, ints, next, total, low, high, value, more_low, more_high, sum_is, few, e_in);
      low = omega (arith, ints, low, high, more_low, more_high, sum_is, few, e_in);
      high = omega (arith, ints, low, high, more_low, more_high, sum_is, few, e_in);
      of_ascent = λ b.
          let sum = c.loop-e.invariant.of_ascent b in
          let s0 = sum.0 in
          let s1 = sum.1 in
          let more = c.anchors-sum.ensures.of_ascent b in
          let m0 = more.0 in
          let m1 = more.1 in
          (omega (arith, ints, s0, s1, m0, m1, sum_is, few, e_in), omega (arith, ints, s0, s1, m0, m1, sum_is, few, e_in));
    }

-- the sum is the bound
total_is : (c : After-loop-e) → c.loop-e.sum ≡ bound c.args.net.now.hull (prices_of c.args.net.now c.args.self.now)
total_is c =
    let n = c.args.net.now in
    let es = c.args.self.now in
    let past : length n.edges ≤ c.loop-e.e = let l = c.loop-e-test.false in let is = c.edges-e-end.ensures.value in omega (arith, l, is) in
    let none = anchors_none n es c.loop-e.e c.requires.entries past in
    let total = c.loop-e.invariant.total in
    omega (arith, ints, none, total)

pub returns-clause-value : goal.returns-clause-value
returns-clause-value c = let total = total_is c in let sum_is = c.loop-e.sum-is in omega (arith, ints, total, sum_is)

pub returns-clause-below : goal.returns-clause-below
returns-clause-below c = λ tris feasible t live each.
    let total = total_is c in
    let sum_is = c.loop-e.sum-is in
    let below = below_with_anchored c.args.net.now c.args.self.now tris c.requires.entries feasible t live each in
    omega (arith, ints, total, sum_is, below)

pub returns-clause-below_all : goal.returns-clause-below_all
returns-clause-below_all c = λ diamond tris feasible is_live skeleton t live.
    let total = total_is c in
    let sum_is = c.loop-e.sum-is in
    let below = below_of_skeleton c.args.net.now c.args.self.now diamond tris c.requires.entries feasible is_live skeleton t live in
    omega (arith, ints, total, sum_is, below)

pub returns-clause-are_prices : goal.returns-clause-are_prices
returns-clause-are_prices c = are_prices c.args.net.now c.args.self.now c.requires.entries

pub returns-clause-not_negative : goal.returns-clause-not_negative
returns-clause-not_negative c = λ b. let low = (c.loop-e.invariant.of_ascent b).0 in let sum_is = c.loop-e.sum-is in omega (arith, ints, low, sum_is)

pub returns-clause-high : goal.returns-clause-high
returns-clause-high c = λ b.
    let high = (c.loop-e.invariant.of_ascent b).1 in
    let few = c.requires.entries.network.few_edges in
    let sum_is = c.loop-e.sum-is in
    omega (arith, ints, high, few, sum_is)

pub returns-clause-within : goal.returns-clause-within
returns-clause-within c = within_limits c.args.net.now c.args.self.now
