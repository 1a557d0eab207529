use Rattle.std.proofs.Common.{take}
use Rattle.price_ascent.proofs.Anchoring.{AreAnchored}
use Rattle.price_ascent.proofs.prices.Prices.anchor_all.Given as goal

abbrev pub invariant-loop-edge : goal.invariant-loop-edge
invariant-loop-edge l = AreAnchored l.net l.fn.self l.self (take l.edge-index l.edge-items)
