use Rattle.price_ascent.specs.Steps.{IsLeastUpto}
use Rattle.price_ascent.proofs.prices.Prices.least_slack.Given as goal

abbrev pub invariant-loop-t : goal.invariant-loop-t
invariant-loop-t l = IsLeastUpto l.net l.self l.row l.t-index l.least
