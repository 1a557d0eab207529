use Rattle.price_ascent.proofs.OneAscent.{one_ascent}
use Rattle.price_ascent.proofs.law.ascent_law.Goals as goal

pub returns : goal.returns
returns c = one_ascent
