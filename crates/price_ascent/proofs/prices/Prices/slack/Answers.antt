use Rattle.price_ascent.proofs.Kept.{number-live}
use Rattle.price_ascent.proofs.prices.Prices.slack.Goals as goal

pub slack_of-requires-clause-live : goal.slack_of-requires-clause-live
slack_of-requires-clause-live c = λ f side. number-live c.args.self.now f (c.requires.live f side)
