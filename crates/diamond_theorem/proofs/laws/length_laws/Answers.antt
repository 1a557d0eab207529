-- How long steps are.
use Rattle.diamond_theorem.proofs.Long.{steps_long, steps_longer}
use Rattle.diamond_theorem.proofs.laws.length_laws.Goals as goal

pub returns-clause-long : goal.returns-clause-long
returns-clause-long c = steps_long

pub returns-clause-longer_than_middle : goal.returns-clause-longer_than_middle
returns-clause-longer_than_middle c = steps_longer
