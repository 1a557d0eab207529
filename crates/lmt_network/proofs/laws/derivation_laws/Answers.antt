use Rattle.lmt_network.proofs.Derivations.{ranked_dead_law, ranked_none_law}
use Rattle.lmt_network.proofs.laws.derivation_laws.Goals as goal

pub returns-clause-dead : goal.returns-clause-dead
returns-clause-dead c = ranked_dead_law

pub returns-clause-none : goal.returns-clause-none
returns-clause-none c = ranked_none_law
