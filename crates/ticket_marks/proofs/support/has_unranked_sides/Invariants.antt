use Rattle.std.proofs.Common.{◌≡◌, ℕ, ◌<◌, get_or, slice_index}
use Rattle.ticket_marks.proofs.support.has_unranked_sides.Given as goal

abbrev pub invariant-loop-k : goal.invariant-loop-k
invariant-loop-k l = (j : ℕ) → j < l.k → slice_index l.ranks (get_or l.sides j 0) ≡ 0
