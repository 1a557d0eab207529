-- Before the first line nothing was seen.
use Rattle.std.proofs.Common.{refl}
use Rattle.tsplib_points.proofs.Steps.{passes_none}
use Rattle.tsplib_points.proofs.gather.LinePass.new.Goals as goal

pub returns : goal.returns
returns c = passes_none _ refl refl refl c.new.ensures.items c.new-2.ensures.empty
