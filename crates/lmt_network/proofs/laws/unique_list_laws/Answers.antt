use Rattle.lmt_network.proofs.Uniqueness.{one_candidate_list_law, one_live_list_law}
use Rattle.lmt_network.proofs.laws.unique_list_laws.Goals as goal

pub returns-clause-candidates : goal.returns-clause-candidates
returns-clause-candidates c = one_candidate_list_law

pub returns-clause-live : goal.returns-clause-live
returns-clause-live c = one_live_list_law
