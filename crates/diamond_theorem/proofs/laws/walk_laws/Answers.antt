-- The walk.
use Rattle.diamond_theorem.proofs.Once.{walks_cross_once}
use Rattle.diamond_theorem.proofs.RoundWalks.{walks_go_round}
use Rattle.diamond_theorem.proofs.Steps.{goes_on}
use Rattle.diamond_theorem.proofs.Walks.{walks_exist}
use Rattle.diamond_theorem.proofs.laws.walk_laws.Goals as goal

pub returns-clause-goes_on : goal.returns-clause-goes_on
returns-clause-goes_on c = goes_on

pub returns-clause-exists : goal.returns-clause-exists
returns-clause-exists c = walks_exist

pub returns-clause-once : goal.returns-clause-once
returns-clause-once c = walks_cross_once

pub returns-clause-round : goal.returns-clause-round
returns-clause-round c = walks_go_round
