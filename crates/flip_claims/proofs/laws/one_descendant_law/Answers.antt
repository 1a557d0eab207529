use Rattle.flip_claims.proofs.Descending.{one_descendant}
use Rattle.flip_claims.proofs.laws.one_descendant_law.Goals as goal

pub returns : goal.returns
returns c = one_descendant
