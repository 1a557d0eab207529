-- The edges of a list by number.
use Rattle.std.specs.Prelude.{ℕ, List, slice_index_or}
use Rattle.std.proofs.Common.{lit<}
use Rattle.exact_predicates.specs.declared.edge.Edge.{Edge}

-- the edge of a number
abbrev pub nth_edge : List Edge → ℕ → Edge
nth_edge es k = slice_index_or es k (record { a = 0; b = 1; ascending = lit< tt })
