use Rattle.diamond_edges.proofs.Ends.{listing_edges}
use Rattle.diamond_edges.proofs.row.row.Goals as goal

pub edges_to-requires : goal.edges_to-requires
edges_to-requires c = rw c.deref.ensures.value (λ k d l. (c.in_ok-ends.ensures.each k d l).0)

pub returns : goal.returns
returns c = listing_edges _ _ _ _ _ c.in_ok-ends.ensures (rw c.deref.ensures.value at c.in_ok-edges.ensures)
