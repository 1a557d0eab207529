-- The orders are those of the types.
use Rattle.exact_predicates.proofs.ListOrder.{edge_cmp-less, tri_cmp-less}
use Rattle.exact_predicates.proofs.laws.order_laws.Goals as goal

pub returns-clause-edges : goal.returns-clause-edges
returns-clause-edges c = edge_cmp-less

pub returns-clause-tris : goal.returns-clause-tris
returns-clause-tris c = tri_cmp-less
