use Rattle.std.proofs.Common.{◌≡◌, ℕ, ◌+◌, ◌<◌, vec_len, slice_index, slice_index_or}
use Rattle.exact_predicates.specs.declared.edge.Edge.{Edge}
use Rattle.empty_triangles.proofs.edges.fill_row.Given as goal

abbrev pub invariant-loop-k : goal.invariant-loop-k
invariant-loop-k l =
    (vec_len l.row + slice_index l.starts l.a ≡ l.k)
    × ((k c : ℕ) (d : Edge) → k < vec_len l.row → slice_index_or l.row.items k c ≡ (slice_index_or l.edges (slice_index l.starts l.a + k) d).b)
