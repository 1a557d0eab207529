use Rattle.steal_workers.proofs.OneAnswer.{one_answer_law}
use Rattle.steal_workers.proofs.laws.settled_law.Goals as goal

pub returns : goal.returns
returns c = one_answer_law
