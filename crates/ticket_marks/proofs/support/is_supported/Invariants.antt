use Rattle.std.proofs.Common.{ℕ, ◌<◌, get_or}
use Rattle.ticket_marks.specs.Finish.{IsBrokenAt}
use Rattle.ticket_marks.proofs.support.is_supported.Given as goal

abbrev pub invariant-loop-l : goal.invariant-loop-l
invariant-loop-l l = (j : ℕ) → j < l.l-index → IsBrokenAt l.net l.ranks l.e (get_or l.l-items j 0)
