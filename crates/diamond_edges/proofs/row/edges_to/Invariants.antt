use Rattle.std.proofs.Common.{◌≡◌, ℕ, ◌<◌, vec_len, slice_index, slice_index_or}
use Rattle.exact_predicates.specs.declared.edge.Edge.{Edge}
use Rattle.diamond_edges.proofs.row.edges_to.Given as goal

abbrev pub invariant-loop-i : goal.invariant-loop-i
invariant-loop-i l =
    (vec_len l.edges ≡ l.i) × ((k : ℕ) (d : Edge) → k < vec_len l.edges → let e = slice_index_or l.edges.items k d in (e.a ≡ l.a) × (e.b ≡ slice_index l.ends k))
