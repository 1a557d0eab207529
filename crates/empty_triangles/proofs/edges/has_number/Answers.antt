use Rattle.empty_triangles.proofs.Emptiness.{Contains-searched}
use Rattle.empty_triangles.proofs.edges.has_number.Goals as goal

pub returns : goal.returns
returns c = Contains-searched _ _ _ _ c.binary_search.ensures.position c.requires c.is_ok.ensures.value
