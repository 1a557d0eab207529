use Rattle.std.proofs.Common.{ℕ, ◌<◌, ◌≤◌, slice_index}
use Rattle.ticket_marks.proofs.finishing.greatest.Given as goal

abbrev pub invariant-loop-e : goal.invariant-loop-e
invariant-loop-e l = record {
  above : (j : ℕ) → j < l.e → slice_index l.ranks j ≤ l.most;
  least : (m : ℕ) → ((j : ℕ) → slice_index l.ranks j ≤ m) → l.most ≤ m;
}
