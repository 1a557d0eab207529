use Rattle.std.proofs.Common.{drop}
use Rattle.exact_predicates.specs.Hull.{ring_pairs}
use Rattle.price_ascent.specs.Raised.{AreRaised}
use Rattle.price_ascent.proofs.prices.Prices.tighten_hull.Given as goal

abbrev pub invariant-loop-i : goal.invariant-loop-i
invariant-loop-i l = AreRaised l.net l.fn.self l.self (ring_pairs l.net.hull) (drop l.i (ring_pairs l.net.hull))
