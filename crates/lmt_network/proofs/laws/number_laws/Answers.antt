use Rattle.lmt_network.proofs.Naming.{dead_law, live_numbers_law}
use Rattle.lmt_network.proofs.NumberLaws.{dead_if_broken, hull_not_dead, live_one_law}
use Rattle.lmt_network.proofs.laws.number_laws.Goals as goal

pub returns-clause-broken : goal.returns-clause-broken
returns-clause-broken c = dead_if_broken

pub returns-clause-hull : goal.returns-clause-hull
returns-clause-hull c = hull_not_dead

pub returns-clause-dead : goal.returns-clause-dead
returns-clause-dead c = dead_law

pub returns-clause-one : goal.returns-clause-one
returns-clause-one c = live_one_law

pub returns-clause-live : goal.returns-clause-live
returns-clause-live c = live_numbers_law
