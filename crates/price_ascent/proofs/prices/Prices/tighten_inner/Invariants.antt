use Rattle.std.proofs.Common.{flat_map}
use Rattle.price_ascent.specs.Ascent.{both_sides}
use Rattle.price_ascent.specs.Entries.{anchored_edges}
use Rattle.price_ascent.specs.Raised.{AreRaised, sides_from}
use Rattle.price_ascent.proofs.prices.Prices.tighten_inner.Given as goal

abbrev pub invariant-loop-e : goal.invariant-loop-e
invariant-loop-e l = AreRaised l.net l.fn.self l.self (flat_map both_sides (anchored_edges l.net l.fn.self)) (sides_from l.net l.fn.self l.e)
