use Rattle.std.proofs.Common.{◌≡◌, ℕ, ◌+◌, ◌<◌, vec_len, slice_index_or}
use Rattle.diamond_edges.proofs.seen.numbers_after.Given as goal

abbrev pub invariant-loop-b : goal.invariant-loop-b
invariant-loop-b l = (vec_len l.numbers + (l.a + 1) ≡ l.b) × ((k : ℕ) (d : ℕ) → k < vec_len l.numbers → slice_index_or l.numbers.items k d ≡ l.a + 1 + k)
