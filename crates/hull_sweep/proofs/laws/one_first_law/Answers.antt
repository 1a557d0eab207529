-- The first triangulation is one.
use Rattle.hull_sweep.proofs.OneFirst.{one_first}
use Rattle.hull_sweep.proofs.laws.one_first_law.Goals as goal

pub returns : goal.returns
returns c = one_first
