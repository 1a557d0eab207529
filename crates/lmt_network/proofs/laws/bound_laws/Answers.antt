use Rattle.lmt_network.proofs.BoundLaws.{below_split_law, exclusion_off_law, exclusion_same_law, bound_law, bound_off_law}
use Rattle.lmt_network.proofs.laws.bound_laws.Goals as goal

pub returns-clause-below : goal.returns-clause-below
returns-clause-below c = below_split_law

pub returns-clause-exclusion_off : goal.returns-clause-exclusion_off
returns-clause-exclusion_off c = exclusion_off_law

pub returns-clause-exclusion_where_same : goal.returns-clause-exclusion_where_same
returns-clause-exclusion_where_same c = exclusion_same_law

pub returns-clause-bound : goal.returns-clause-bound
returns-clause-bound c = bound_law

pub returns-clause-bound_off : goal.returns-clause-bound_off
returns-clause-bound_off c = bound_off_law
