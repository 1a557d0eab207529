use Rattle.std.proofs.Common.{◌≡◌, ◌*◌, ◌^◌, ◌+ℤ◌, ◌≤ℤ◌, neg_ℤ, pos}
use Rattle.lmt_network.specs.Prices.{bound}
use Rattle.price_ascent.specs.Belonging.{BelongTo}
use Rattle.price_ascent.specs.Entries.{prices_of}
use Rattle.price_ascent.specs.Sums.{anchors_from}
use Rattle.price_ascent.proofs.prices.Prices.bound.Given as goal

abbrev pub invariant-loop-e : goal.invariant-loop-e
invariant-loop-e l = record {
  total : l.sum +ℤ anchors_from l.net l.self l.e ≡ bound l.net.hull (prices_of l.net l.self);
  low : neg_ℤ (pos (10 ^ 18 * l.e)) ≤ℤ l.sum;
  high : l.sum ≤ℤ pos (482 * 10 ^ 16 * l.e);
  of_ascent : BelongTo l.net l.self → (pos 0 ≤ℤ l.sum) × (l.sum ≤ℤ pos (2 * 10 ^ 18 * l.e));
}
