use Rattle.std.proofs.Common.{◌+◌, ◌-◌, ◌<◌, ◌≤◌, vec_len}
use Rattle.mwt_base.specs.Limits.{most_edges}
use Rattle.exact_predicates.specs.declared.edge.Edge.{Edge}
use Rattle.exact_predicates.specs.Candidates.{EdgePrecedes}
use Rattle.point_grid.specs.Listing.{IsListing}
use Rattle.diamond_edges.specs.Enumeration.{IsOpenEdge}
use Rattle.diamond_edges.proofs.rows.candidates.Given as goal

abbrev pub invariant-loop-a : goal.invariant-loop-a
invariant-loop-a g l =
    (IsListing EdgePrecedes (IsOpenEdge l.diamond l.points.points) (λ (e : Edge). e.a < l.a) l.edges.items) × (vec_len l.edges ≤ most_edges) × (l.a ≤ l.count)

abbrev pub decreases-loop-a : goal.decreases-loop-a
decreases-loop-a g l = l.count - l.a

abbrev pub invariant-loop-i : goal.invariant-loop-i
invariant-loop-i g l =
    (IsListing EdgePrecedes (IsOpenEdge l.diamond l.points.points) (λ (e : Edge). e.a < l.a + l.i) l.edges.items) × (vec_len l.edges ≤ most_edges)
