use Rattle.diamond_edges.proofs.Walks.{clear_from}
use Rattle.diamond_edges.proofs.link.is_blocked.Goals as goal

pub returns-in-None-clause-is : goal.returns-in-None-clause-is
returns-in-None-clause-is c = clear_from _ _ _ _ c.requires.tree c.in-None.ensures
