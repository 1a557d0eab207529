use Rattle.std.proofs.Common.{◌≡◌, false}
use Rattle.price_ascent.specs.Swept.{AreSwept}
use Rattle.price_ascent.proofs.prices.Prices.lower_all.Given as goal

abbrev pub invariant-loop-e : goal.invariant-loop-e
invariant-loop-e l = record {
  swept : AreSwept l.net l.fn.self l.self l.e;
  at_rest : l.fell ≡ false → l.self ≡ l.fn.self;
}
