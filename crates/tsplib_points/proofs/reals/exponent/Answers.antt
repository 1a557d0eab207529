-- Without an exponent the point stays where it is.
use Rattle.tsplib_points.proofs.RealTexts.{no_right}
use Rattle.tsplib_points.proofs.reals.exponent.Goals as goal

pub returns-then-not-is_there-clause-right : goal.returns-then-not-is_there-clause-right
returns-then-not-is_there-clause-right c = no_right c.args.text.now (c.requires c.if-not-is_there.true)
