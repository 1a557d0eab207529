-- The disc over an edge.
use Rattle.diamond_theorem.proofs.Discs.{diamond_in_disc, disc_convex}
use Rattle.diamond_theorem.proofs.laws.disc_laws.Goals as goal

pub returns-clause-diamond : goal.returns-clause-diamond
returns-clause-diamond c = diamond_in_disc

pub returns-clause-convex : goal.returns-clause-convex
returns-clause-convex c = disc_convex
