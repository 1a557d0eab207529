use Rattle.exact_predicates.proofs.Minimums.{some_minimum}
use Rattle.lmt_network.proofs.Minimum.{minimum_law, minimum_live_law, minimum_skeleton_law}
use Rattle.lmt_network.proofs.laws.minimum_laws.Goals as goal

pub returns-clause-flip_minimal : goal.returns-clause-flip_minimal
returns-clause-flip_minimal c = minimum_law

pub returns-clause-live : goal.returns-clause-live
returns-clause-live c = minimum_live_law

pub returns-clause-skeleton : goal.returns-clause-skeleton
returns-clause-skeleton c = minimum_skeleton_law

pub returns-clause-exists : goal.returns-clause-exists
returns-clause-exists c = some_minimum
