use Rattle.lmt_network.proofs.CandidateEdges.{candidates_law}
use Rattle.lmt_network.proofs.FlipMinimal.{closed_law, live_law}
use Rattle.lmt_network.proofs.laws.flip_minimal_laws.Goals as goal

pub returns-clause-closed : goal.returns-clause-closed
returns-clause-closed c = closed_law

pub returns-clause-live : goal.returns-clause-live
returns-clause-live c = live_law

pub returns-clause-candidates : goal.returns-clause-candidates
returns-clause-candidates c = candidates_law
