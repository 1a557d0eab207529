use Rattle.std.proofs.Common.{ℕ, ◌-◌, ◌<◌, ◌≤◌, length, slice_index_or}
use Rattle.exact_predicates.specs.declared.edge.Edge.{Edge}
use Rattle.empty_triangles.proofs.edges.start_of.Given as goal

abbrev pub invariant-loop-place : goal.invariant-loop-place
invariant-loop-place l = record {
  within : l.place ≤ length l.edges;
  before : (i : ℕ) (d : Edge) → i < l.place → (slice_index_or l.edges i d).a < l.a;
}

abbrev pub decreases-loop-place : goal.decreases-loop-place
decreases-loop-place l = length l.edges - l.place
