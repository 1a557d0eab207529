use Rattle.face_optimum.proofs.OneOptimum.{one_optimum}
use Rattle.face_optimum.proofs.law.face_law.Goals as goal

pub returns : goal.returns
returns c = one_optimum
