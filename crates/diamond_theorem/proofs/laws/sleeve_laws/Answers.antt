-- Flips in a sleeve.
use Rattle.diamond_theorem.proofs.Fans.{fans_flip}
use Rattle.diamond_theorem.proofs.FarthestFlips.{sleeves_flip}
use Rattle.diamond_theorem.proofs.WalkSleeves.{walks_are_sleeves}
use Rattle.diamond_theorem.proofs.laws.sleeve_laws.Goals as goal

pub returns-clause-walk : goal.returns-clause-walk
returns-clause-walk c = walks_are_sleeves

pub returns-clause-fan : goal.returns-clause-fan
returns-clause-fan c = fans_flip

pub returns-clause-flip : goal.returns-clause-flip
returns-clause-flip c = sleeves_flip
