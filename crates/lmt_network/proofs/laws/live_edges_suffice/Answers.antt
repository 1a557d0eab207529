use Rattle.lmt_network.proofs.LiveSuffices.{shortest_law, bound_over_live_law}
use Rattle.lmt_network.proofs.laws.live_edges_suffice.Goals as goal

pub returns-clause-shortest : goal.returns-clause-shortest
returns-clause-shortest c = shortest_law

pub returns-clause-bound : goal.returns-clause-bound
returns-clause-bound c = bound_over_live_law
