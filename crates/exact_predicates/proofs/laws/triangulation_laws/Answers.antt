-- One hull, how many edges, one list of triangles.
use Rattle.exact_predicates.proofs.Ascending.{AreTrianglesOver-only}
use Rattle.exact_predicates.proofs.OneHull.{IsHull-only}
use Rattle.exact_predicates.proofs.SidesCounted.{length-edges}
use Rattle.exact_predicates.proofs.laws.triangulation_laws.Goals as goal

pub returns-clause-one_hull : goal.returns-clause-one_hull
returns-clause-one_hull c = IsHull-only

pub returns-clause-edges : goal.returns-clause-edges
returns-clause-edges c = length-edges

pub returns-clause-one_triangle_list : goal.returns-clause-one_triangle_list
returns-clause-one_triangle_list c = AreTrianglesOver-only
