-- Single steps.
use Rattle.diamond_theorem.proofs.Low.{low_step}
use Rattle.diamond_theorem.proofs.Obtuse.{steps_are_seen_obtuse}
use Rattle.diamond_theorem.proofs.Sights.{steps_go_round}
use Rattle.diamond_theorem.proofs.laws.step_laws.Goals as goal

pub returns-clause-round : goal.returns-clause-round
returns-clause-round c = steps_go_round

pub returns-clause-low : goal.returns-clause-low
returns-clause-low c = low_step

pub returns-clause-obtuse : goal.returns-clause-obtuse
returns-clause-obtuse c = steps_are_seen_obtuse
